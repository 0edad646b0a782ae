use native.Mathlib.Omega.{arith}
use mathlib.Core.Path.{refl}
use mathlib.Core.List.Memᴰ
use Rattle.decode.specs.View.{proposition_of}
use Rattle.termdag.specs.Store.{terms_in}
use Rattle.steps.proofs.JobLaws.{claim-of, reference-inside}
use Rattle.steps.proofs.KindLaws.{step-fiat, step-trans, step-sym, step-normalize, step-none}
use Rattle.steps.proofs.plain_step.Goals as goal

pub claim_at-a-requires : goal.claim_at-a-requires
claim_at-a-requires c = let a = c.args in let pre = c.requires in record { ready = pre.ready; p_bound = reference-inside pre.justification_at pre.p_bound c.in-Trans.is (Memᴰ.head refl) c.wide.ensures }

pub claim_at-b-requires : goal.claim_at-b-requires
claim_at-b-requires c = let a = c.args in let pre = c.requires in record { ready = pre.ready; p_bound = reference-inside pre.justification_at pre.p_bound c.in-Trans.is (Memᴰ.tail (Memᴰ.head refl)) c.wide-in-Trans.ensures }

pub claim_at-a-requires-in-Sym : goal.claim_at-a-requires-in-Sym
claim_at-a-requires-in-Sym c = let a = c.args in let pre = c.requires in record { ready = pre.ready; p_bound = reference-inside pre.justification_at pre.p_bound c.in-Sym.is (Memᴰ.head refl) c.wide-in-Sym.ensures }

pub claim_at-a-requires-in-ContainerNormalize : goal.claim_at-a-requires-in-ContainerNormalize
claim_at-a-requires-in-ContainerNormalize c = let a = c.args in let pre = c.requires in record { ready = pre.ready; p_bound = reference-inside pre.justification_at pre.p_bound c.in-ContainerNormalize.is (Memᴰ.head refl) c.wide-in-ContainerNormalize.ensures }

pub normalize_step-requires : goal.normalize_step-requires
normalize_step-requires c = let a = c.args in let pre = c.requires in let h = c.claim_at-a-in-ContainerNormalize.ensures.rhs in let t = pre.job_bound in record { ready = pre.ready; keyed = pre.keyed; stored = pre.stored; rhs_lt_cells = omega arith }

pub returns-in-Fiat : goal.returns-in-Fiat
returns-in-Fiat c = let a = c.args in let pre = c.requires in step-fiat a.job.now a.unions.now a.gmarks.now (terms_in a.store.now.kinds.now a.store.now.ends.now a.store.now.pool.now a.fill) a.p (proposition_of a.q) a.j c.fiat_step.result c.in-Fiat.is c.fiat_step.ensures

pub returns-in-Trans : goal.returns-in-Trans
returns-in-Trans c = let a = c.args in let pre = c.requires in step-trans a.job.now a.unions.now a.gmarks.now (terms_in a.store.now.kinds.now a.store.now.ends.now a.store.now.pool.now a.fill) a.p (proposition_of a.q) a.j c.trans_step.result (proposition_of c.claim_at-a.result) (proposition_of c.claim_at-b.result) c.in-Trans.is (claim-of c.claim_at-a.ensures c.wide.ensures) (claim-of c.claim_at-b.ensures c.wide-in-Trans.ensures) c.trans_step.ensures

pub returns-in-Sym : goal.returns-in-Sym
returns-in-Sym c = let a = c.args in let pre = c.requires in step-sym a.job.now a.unions.now a.gmarks.now (terms_in a.store.now.kinds.now a.store.now.ends.now a.store.now.pool.now a.fill) a.p (proposition_of a.q) a.j c.sym_step.result (proposition_of c.claim_at-a-in-Sym.result) c.in-Sym.is (claim-of c.claim_at-a-in-Sym.ensures c.wide-in-Sym.ensures) c.sym_step.ensures

pub returns-in-ContainerNormalize : goal.returns-in-ContainerNormalize
returns-in-ContainerNormalize c = let a = c.args in let pre = c.requires in step-normalize a.job.now a.unions.now a.gmarks.now (terms_in a.store.now.kinds.now a.store.now.ends.now a.store.now.pool.now a.fill) a.p (proposition_of a.q) a.j c.normalize_step.result (proposition_of c.claim_at-a-in-ContainerNormalize.result) c.in-ContainerNormalize.is (claim-of c.claim_at-a-in-ContainerNormalize.ensures c.wide-in-ContainerNormalize.ensures) c.normalize_step.ensures

pub returns-in_default : goal.returns-in_default
returns-in_default c = let a = c.args in step-none a.job.now a.unions.now a.gmarks.now (terms_in a.store.now.kinds.now a.store.now.ends.now a.store.now.pool.now a.fill) a.p (proposition_of a.q) a.j _ c.in_default.in_default-own.keys5 refl
