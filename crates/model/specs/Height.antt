-- The height of a proof, from request Q-2: only the proofs that the check follows count, in either mode.
use Rattle.std.specs.Prelude.{ℕ, zero, suc, max, List, [], ◌∷◌, map, Bool, true, false, length, get_or}
use Rattle.std.proofs.Math.Option.{Option, none, some}
use Rattle.model.specs.Program.{Program, Fact, Rule, Proof, Justification, fiat, rule, merge_fn, trans, symm, congr, container_normalize, eval}
use Rattle.model.specs.Fact.{is_container_side_condition}
use Rattle.model.specs.Walk.{no_proof, rule_of}

-- A proof is followed unless it stands opposite a container side condition.
abbrev pub follow_unless : Bool → ℕ → List ℕ → List ℕ
follow_unless true p ps = ps
follow_unless false p ps = p ∷ ps

-- The premises that a rule's step follows. Where the counts differ, the rest has none: 27, so no accepted proof leads there.
abbrev pub followed_premises : Program → List Fact → List ℕ → List ℕ
followed_premises prog [] ps = []
followed_premises prog (f ∷ fs) [] = []
followed_premises prog (f ∷ fs) (p ∷ ps) = follow_unless (is_container_side_condition prog f) p (followed_premises prog fs ps)

-- The same, by the rule of the step's name. A missing one follows nothing: 32, so no accepted proof leads there.
abbrev pub followed_by : Program → Option Rule → List ℕ → List ℕ
followed_by prog none ps = []
followed_by prog (some r) ps = followed_premises prog r.facts ps

-- The proofs that the check of a justification follows, checked before or not, in operand order.
abbrev pub followed : Program → Justification → List ℕ
followed prog fiat = []
followed prog (rule name ps σ) = followed_by prog (rule_of prog.rules name) ps
followed prog (merge_fn f a b) = a ∷ b ∷ []
followed prog (trans a b) = a ∷ b ∷ []
followed prog (symm a) = a ∷ []
followed prog (congr a i b) = a ∷ b ∷ []
followed prog (container_normalize a) = a ∷ []
followed prog eval = []

abbrev pub maximum : List ℕ → ℕ
maximum [] = 0
maximum (x ∷ xs) = max x (maximum xs)

-- One more than the greatest among the proofs followed, by fuel.
abbrev pub height_by : Program → List Proof → ℕ → ℕ → ℕ
height_by prog proofs zero p = 0
height_by prog proofs (suc fuel) p = suc (maximum (map (height_by prog proofs fuel) (followed prog (get_or proofs p no_proof).justification)))

-- No way down from an accepted proof meets a proof twice, so as much fuel as there are proofs is enough.
abbrev pub height : Program → List Proof → ℕ → ℕ
height prog proofs p = height_by prog proofs (length proofs) p
