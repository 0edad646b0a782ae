-- A store of terms in three word arrays, and the contracts of the functions that fill it.
use Rattle.std.specs.Prelude.{◌≡◌, Option, Some, None, List, [], ◌∷◌, map, ℕ, ◌≤◌, ◌<◌, ◌^◌, length, drop}
use Rattle.index.specs.declared.Store.{Store}
use Rattle.index.specs.declared.View.{View}
use Rattle.model.specs.Cell.{start_of, cells_of}
use Rattle.model.specs.Term.{Term, cell_of, read_term}
use Rattle.model.specs.Check.{Outcome, ok, refused, Room}
use Rattle.cells.specs.Table.{Formed, Once}
use Rattle.cells.specs.declared.Fill.{Fill as TableFill}
use Rattle.index.specs.declared.Fill.{Fill}
use Rattle.index.specs.declared.Added.{Added}
use Rattle.index.specs.Listing.{Lists, table_fill}

-- The terms that the arrays hold.
unfoldable pub terms_in : List ℕ → List ℕ → List ℕ → Fill → List Term
terms_in K E P f = map read_term (cells_of K E P f.cells)

-- The arrays are well formed, each cell is a term's, and no two are equal.
pub record Stored (K E P : List ℕ) (f : Fill) : Type 0 where
  pub formed : Formed K E P (table_fill f)
  pub once : Once (cells_of K E P f.cells)
  pub terms : map cell_of (terms_in K E P f) ≡ cells_of K E P f.cells

-- The same, of a store.
abbrev pub StoredIn : Store → Fill → Type 0
StoredIn s f = Stored s.kinds.now s.ends.now s.pool.now f

-- The same, of a store that is read alone.
abbrev pub StoredAt : View → Fill → Type 0
StoredAt v f = Stored v.kinds.now v.ends.now v.pool.now f

-- The index lists the store: each term once and nothing else. It has more slots than there can be terms.
pub record Indexed (K E P I : List ℕ) (f : Fill) : Type 0 where
  pub stored : Stored K E P f
  pub lists : Lists f.multiplier I (cells_of K E P f.cells)
  pub room : length K < length I

-- The same, of a store.
abbrev pub IndexedIn : Store → Fill → Type 0
IndexedIn s f = Indexed s.kinds.now s.ends.now s.pool.now s.index.now f

-- The same, of a store that is read alone.
abbrev pub IndexedAt : View → Fill → Type 0
IndexedAt v f = Indexed v.kinds.now v.ends.now v.pool.now v.index.now f

-- The room of lent arrays.
abbrev pub room_of : List ℕ → List ℕ → Room
room_of K P = record { cells = length K; words = length P }

-- The terms that a store holds, and its room.
abbrev pub terms_of : Store → Fill → List Term
terms_of s f = terms_in s.kinds.now s.ends.now s.pool.now f

abbrev pub room_in : Store → Room
room_in s = room_of s.kinds.now s.pool.now

-- The same, of a store that is read alone.
abbrev pub terms_at : View → Fill → List Term
terms_at v f = terms_in v.kinds.now v.ends.now v.pool.now f

abbrev pub room_at : View → Room
room_at v = room_of v.kinds.now v.pool.now

-- What an addition answers, with the terms after: 53 where the store is full.
abbrev pub outcome_by : Option ℕ → Added → List Term → Outcome ℕ
outcome_by None a s = refused (record { number = 53; fields = a.fill.words ∷ [] }) s
outcome_by (Some n) a s = ok n s

abbrev pub outcome_of : Added → List Term → Outcome ℕ
outcome_of a s = outcome_by a.number a s

-- The contract of every function that adds terms: the answer a is the outcome o, and past the fill the arrays are as they were.
pub record Adds (K E P I : List ℕ) (f : Fill) (K' E' P' I' : List ℕ) (a : Added) (o : Outcome ℕ) : Type 0 where
  pub outcome : outcome_of a (terms_in K' E' P' a.fill) ≡ o
  pub indexed : Indexed K' E' P' I' a.fill
  pub len_k : length K' ≡ length K
  pub len_e : length E' ≡ length E
  pub len_p : length P' ≡ length P
  pub len_i : length I' ≡ length I
  pub more_cells : f.cells ≤ a.fill.cells
  pub more_words : f.words ≤ a.fill.words
  pub kinds : drop a.fill.cells K' ≡ drop a.fill.cells K
  pub ends : drop a.fill.cells E' ≡ drop a.fill.cells E
  pub pool : drop a.fill.words P' ≡ drop a.fill.words P

-- The same, of a store.
abbrev pub AddsIn : Store → Fill → Store → Added → Outcome ℕ → Type 0
AddsIn s f s' a o = Adds s.kinds.now s.ends.now s.pool.now s.index.now f s'.kinds.now s'.ends.now s'.pool.now s'.index.now a o

-- The value r, if there is one, of a check with the outcome o in the store s: then the check leaves the store.
pub record Known (r : Option ℕ) (o : Outcome ℕ) (s : List Term) : Type 0 where
  pub value : (v : ℕ) → r ≡ Some v → o ≡ ok v s

-- The first n cells of a table are terms' cells, no two equal, and the lent arrays K, E, P have room for them.
pub record Loadable (JK JE JP : List ℕ) (f : TableFill) (n : ℕ) (K E P : List ℕ) : Type 0 where
  pub formed : Formed JK JE JP f
  pub within : n ≤ f.cells
  pub once : Once (cells_of JK JE JP n)
  pub terms : map cell_of (map read_term (cells_of JK JE JP n)) ≡ cells_of JK JE JP n
  pub cells : n ≤ length K
  pub words : start_of JE n ≤ length P
  pub even : length E ≡ length K
  pub few : length K < 2 ^ 32
  pub small : length P < 2 ^ 32

-- The same, of a store.
abbrev pub LoadableIn : List ℕ → List ℕ → List ℕ → TableFill → ℕ → Store → Type 0
LoadableIn JK JE JP f n s = Loadable JK JE JP f n s.kinds.now s.ends.now s.pool.now

-- The lent arrays hold the first n terms of a table from their start on, and past these are as they were; x is the multiplier.
pub record Loaded (JK JE JP : List ℕ) (n x : ℕ) (K E P K' E' P' : List ℕ) (f : Fill) : Type 0 where
  pub cells : f.cells ≡ n
  pub words : f.words ≡ start_of JE n
  pub multiplier : f.multiplier ≡ x
  pub stored : Stored K' E' P' f
  pub terms : terms_in K' E' P' f ≡ map read_term (cells_of JK JE JP n)
  pub len_k : length K' ≡ length K
  pub len_e : length E' ≡ length E
  pub len_p : length P' ≡ length P
  pub kinds : drop f.cells K' ≡ drop f.cells K
  pub ends : drop f.cells E' ≡ drop f.cells E
  pub pool : drop f.words P' ≡ drop f.words P

-- The same, of a store.
abbrev pub LoadedIn : List ℕ → List ℕ → List ℕ → ℕ → ℕ → Store → Store → Fill → Type 0
LoadedIn JK JE JP n x s s' f = Loaded JK JE JP n x s.kinds.now s.ends.now s.pool.now s'.kinds.now s'.ends.now s'.pool.now f
