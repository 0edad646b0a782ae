use Prim.Native.Nat.{ℕ}
use native.Mathlib.Omega.{arith}
use lib.ListN.{length-replicate}
use Rattle.check_proof.proofs.Laws.{searched-kept}
use Rattle.check_proof.proofs.check_proof.Goals as goal

pub check_found-requires : goal.check_found-requires
check_found-requires c = record { given = c.requires.given; searched = c.find_offences.ensures; keyed = c.needs_no_chains.ensures c.if-needs_no_chains.true _; asked_bound = c.requires.asked_bound }

pub find_offences-requires-2 : goal.find_offences-requires-2
find_offences-requires-2 c = let x = c.requires.given.ready.held.limits.expressions in record { ready = c.requires.given.ready; job_in_bounds = omega (arith, length-replicate {A = ℕ} 36865 0) }

pub chain_tables-requires : goal.chain_tables-requires
chain_tables-requires c = record { held = c.requires.given.ready.held; in_bounds = omega (arith, c.find_offences-2.auto.found, length-replicate {A = ℕ} 36865 0) }

pub check_found-requires-2 : goal.check_found-requires-2
check_found-requires-2 c = record { given = c.requires.given; searched = searched-kept c.requires.given.ready.held.limits.expressions c.chain_tables.ensures.within c.find_offences-2.ensures; keyed = c.chain_tables.ensures.keyed; asked_bound = c.requires.asked_bound }
