use Rattle.std.proofs.Common.{◌≡◌, ◌-◌, ◌≤◌, length, drop}
use Rattle.index.specs.Mixing.{mix_from}
use Rattle.index.proofs.mix.Given as goal

abbrev pub invariant-loop-i : goal.invariant-loop-i
invariant-loop-i l = (l.i ≤ length l.ws) × (mix_from l.x l.kind l.ws ≡ mix_from l.x l.h (drop l.i l.ws))

abbrev pub decreases-loop-i : goal.decreases-loop-i
decreases-loop-i l = length l.ws - l.i
