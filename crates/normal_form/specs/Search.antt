-- The offences of an admitted job's expressions and which of them call a container's primitive, each by one word of a table.
use Rattle.std.specs.Prelude as prelude
use Rattle.std.specs.Prelude.{Some, None}
use Rattle.std.specs.Prelude.{◌≡◌, Bool, true, false, List, ℕ, ◌-◌, ◌/◌, ◌%◌, ◌≤◌, ◌<◌, eqb, length, get_or}
use Rattle.std.proofs.Math.Option.{Option, none, some}
use Rattle.model.specs.Layout.{sizes_of}
use Rattle.model.specs.Term.{Term}
use Rattle.model.specs.Program.{Program, Fact}
use Rattle.model.specs.Check.{ok}
use Rattle.model.specs.Fact as fact
use Rattle.model.specs.Fact.{primitive_non_normal_arg, container_primitive_not_side_condition, is_container_primitive, offence, assert_body_proof_normal_form, is_container_side_condition}
use Rattle.program.specs.Ready.{program_for}
use Rattle.program.specs.Read.{expr_for}
use Rattle.normal_form.specs.declared.Offence.{Offence}

-- An offence, or none.
abbrev pub offence_of : prelude.Option Offence → Option fact.Offence
offence_of None = none
offence_of (Some (Offence.PrimitiveNonNormalArg e)) = some (primitive_non_normal_arg e)
offence_of (Some (Offence.ContainerPrimitiveNotSideCondition e)) = some (container_primitive_not_side_condition e)

-- What the word w says, where it is told whether it is 0, and odd.
abbrev pub offence_by : Bool → Bool → ℕ → Option fact.Offence
offence_by true odd w = none
offence_by false true w = some (primitive_non_normal_arg (w / 2))
offence_by false false w = some (container_primitive_not_side_condition (w / 2 - 1))

-- What half a word of the table says: 0 is none; 2 * e + 1 and 2 * e + 2 are the two kinds, at expression e.
unfoldable pub offence_in : ℕ → Option fact.Offence
offence_in w = offence_by (eqb w 0) (eqb (w % 2) 1) w

-- A word is odd for a call of a container's primitive.
abbrev pub container_in : ℕ → Bool
container_in w = eqb (w % 2) 1

-- The first n words of F say, of each of the first n expressions, the first offence in it and whether it calls a container's primitive.
pub record SearchedTo (J : List ℕ) (n : ℕ) (F : List ℕ) : Type 0 where
  pub long : n ≤ length F
  pub low : (e : ℕ) → e < n → get_or F e 0 < 65536
  pub says : (e : ℕ) → e < n → offence_in (get_or F e 0 / 2) ≡ offence (expr_for J e) (program_for J)
  pub calls : (e : ℕ) → e < n → container_in (get_or F e 0) ≡ is_container_primitive (program_for J) (fact.head_of (expr_for J e))

-- A word for each expression.
abbrev pub Searched : List ℕ → List ℕ → Type 0
Searched J F = SearchedTo J (sizes_of J).expressions F

-- A fact that is in normal form, in a rule of any name, and no side condition.
pub record Ordinary (prog : Program) (f : Fact) : Type 0 where
  pub premised : is_container_side_condition prog f ≡ false
  pub normal : (name : ℕ) (s : List Term) → assert_body_proof_normal_form prog name f s ≡ ok tt s
