-- Laws of the index as loading fills it: the terms that it lists differ, and that of an admitted job has a slot for each term and lists all.
use Rattle.std.specs.Prelude.{Some}
use mathlib.Core.Path.{◌≡◌, refl, sym, ap, subst, ◌∙◌}
use mathlib.Core.Bool.{Bool, true, false, not, ◌||◌, true≢false}
use mathlib.Core.List.Memᴰ
use mathlib.Core.List.{List, [], ◌∷◌}
use mathlib.Core.Option.{none}
use Prim.Native.Nat.{ℕ, ◌+◌, ◌*◌, ◌<◌}
use native.Mathlib.Omega.{arith}
use native.Mathlib.Decide.{dec_lt}
use lib.Dec.{ltb}
use lib.ListN.{length, get_or}
use lib.Pow.{pow_pos}
use borrow.Author.Tests.{ltb-false}
use Rattle.model.specs.Cell.{Cell, no_cell, same_cell, tabulate, cell_at, cells_of}
use Rattle.model.specs.Layout.{Sizes}
use Rattle.model.specs.Load.{Lent, any, is_first, once_tests, is_power, wrong_slots, first_refusal}
use Rattle.model.proofs.Tests.{or_left, not-false}
use Rattle.model.proofs.Valid.{pass, table-passes}
use Rattle.model.proofs.Slots.{power-is}
use Rattle.cells.specs.Table.{find_from}
use Rattle.cells.proofs.Laws.{get_d_tabulate, cells-length}
use Rattle.index.specs.Listing.{Lists}
use Rattle.load.specs.declared.sizes.Sizes.{Sizes as SizesHeld}
use Rattle.load.specs.Held.{sizes_in, Distinct, Fills, tables_for, writer_tests, room_lacks}
use Rattle.load.proofs.Loading.{take-tabulate, terms-are, or_no}

-- the terms that are known to differ: none, or those that are listed
pub none-distinct : (K E P : List ℕ) (z : SizesHeld) → Distinct K E P z 0
none-distinct K E P z = record { few = omega arith; once = record { one = λ i j h l e. absurd (omega (arith, cells-length K E P 0)) } }

pub fills-distinct : {x : ℕ} {K E P I : List ℕ} {z : SizesHeld} {n : ℕ} → Fills x K E P z I n → Distinct K E P z n
unfolding cells_of
fills-distinct F = record { few = F.filled.low; once = F.filled.once }

-- with two slots for each cell and at least one, there are more slots than cells, and than terms where these have room
pub slots-over : (l : Lent) → wrong_slots l ≡ false → l.kinds < l.index
slots-over l w =
    let two = or_no (ltb l.index (2 * l.kinds)) (not (is_power l.index)) w in
    let (k, p) = power-is l.index (not-false (is_power l.index) two.1) in
    omega (arith, pow_pos k, ltb-false l.index (2 * l.kinds) two.0)

pub slots-many : (z : Sizes) (words : ℕ) (l : Lent) → room_lacks z words l ≡ false → wrong_slots l ≡ false → z.terms < l.index
slots-many z words l h w =
    let few : ltb l.kinds z.terms ≡ false = or_left _ _ (or_left _ _ (or_left _ _ (or_left _ _ (or_left _ _ h)))) in
    omega (arith, slots-over l w, ltb-false l.kinds z.terms few)

-- a cell that is found is the same as some
found-any : (xs : List Cell) (c : Cell) (k j : ℕ) → find_from k xs c ≡ Some j → any (λ e. same_cell e c) xs ≡ true
unfolding find_from
found-any [] c k j e = let z : ◌≡◌ {A = ℕ} 0 1 = cc in absurd (omega arith)
found-any (x ∷ xs) c k j e = go (same_cell x c) (found-any xs c (k + 1) j) e
  where
    go : (t : Bool) → (find_from (k + 1) xs c ≡ Some j → any (λ e. same_cell e c) xs ≡ true)
        → elim t [ true ↦ Some k | false ↦ find_from (k + 1) xs c ] ≡ Some j → (t || any (λ e. same_cell e c) xs) ≡ true
    go true r q = refl
    go false r q = r q

-- a cell that equals an earlier one fails 9
again-fails : (f : ℕ → Cell) (m n j : ℕ) → n < m → find_from 0 (tabulate n f) (f n) ≡ Some j → is_first same_cell (tabulate m f) n (get_or (tabulate m f) n no_cell) ≡ false
again-fails f m n j h e = rw (get_d_tabulate m f n no_cell h, take-tabulate f m n (omega arith), found-any (tabulate n f) (f n) 0 j e)

-- where the terms pass 9 all of them are listed
module _ {x : ℕ} {K E P I : List ℕ} {z : SizesHeld} {n : ℕ} (F : Fills x K E P z I n) (w : first_refusal (writer_tests (sizes_in z) (tables_for K E P z)) ≡ none) where
  terms-pass : n < z.terms → is_first same_cell (cells_of K E P z.terms) n (get_or (cells_of K E P z.terms) n no_cell) ≡ true
  terms-pass h =
      let t = tables_for K E P z in
      let l : n < length t.terms = omega (arith, ap length (terms-are K E P z), cells-length K E P z.terms) in
      subst (λ (cs : List Cell). is_first same_cell cs n (get_or cs n no_cell) ≡ true) (terms-are K E P z)
      (table-passes t 9 (once_tests t) 0 (omega arith) refl n l (pass (writer_tests (sizes_in z) t) w _ (Memᴰ.tail (Memᴰ.tail (Memᴰ.tail (Memᴰ.head refl))))))

  all_listed : n ≡ z.terms
  unfolding cells_of
  all_listed = go (dec_lt n z.terms)
    where
      go : Dec (n < z.terms) → n ≡ z.terms
      go (yes h) = let (j, q) = F.filled.again h in absurd (true≢false (sym (terms-pass h) ∙ again-fails (cell_at K E P) z.terms n j h q))
      go (no h) = omega (arith, F.filled.low)

  pub lists-all : Lists x I (cells_of K E P z.terms)
  unfolding cells_of
  lists-all = subst (λ (k : ℕ). Lists x I (tabulate k (cell_at K E P))) all_listed F.filled.lists
