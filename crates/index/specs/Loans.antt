-- The lent arrays of an indexed table: they are those that were lent, or a view of them.
use Rattle.std.specs.Prelude.{◌≡◌}
use Rattle.index.specs.declared.Store.{Store}
use Rattle.index.specs.declared.View.{View}

abbrev pub SameLoans : Store → Store → Type 0
SameLoans s s' = (s'.kinds.ghost_name ≡ s.kinds.ghost_name) × (s'.ends.ghost_name ≡ s.ends.ghost_name) × (s'.pool.ghost_name ≡ s.pool.ghost_name) × (s'.index.ghost_name ≡ s.index.ghost_name)

-- The view has the words of the lent arrays.
abbrev pub Views : Store → View → Type 0
Views s v = (v.kinds.now ≡ s.kinds.now) × (v.ends.now ≡ s.ends.now) × (v.pool.now ≡ s.pool.now) × (v.index.now ≡ s.index.now)
