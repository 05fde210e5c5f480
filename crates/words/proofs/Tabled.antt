-- Numbers renamed by a table of the small ones, and how the table is made.
use Rattle.std.proofs.Common.{◌≡◌, ℕ, zero, suc, ◌+◌, ◌<◌, ◌≤◌, ◌⊎◌, List, [], ◌∷◌, map, length, get_or, drop, set, sym, refl, ap, ◌∙◌, ⊎_elim, eq-or-lt_of_le, add-zero, zero-add, add-one, arith, drop_of_length-le, length-set}
use denote.Param.Members.{Mut}
use Rattle.std.specs.Fn.{Called}
use Rattle.std.specs.Array.{IsFromFnResultFrom, IsFromFnResult}
use Rattle.std.specs.List.{range_with_len}
use Rattle.std.proofs.lemmas.Bool.{cases_eq}
use Rattle.std.proofs.lemmas.Grind.{get_or-set_at}
use Rattle.std.proofs.lemmas.List.{get_or-set_other}
use Rattle.std.proofs.lemmas.List.FromFn.{fill_by_all}
use Rattle.terms.proofs.Positions.{drop_one}
use Rattle.words.specs.Rename.{renamed, count_from}
use Rattle.words.specs.RenameRun.{rename_number, rename_run, Tabled}
use Rattle.words.specs.Theory.Bijections.{renamed_first, renamed_later}
use Rattle.words.proofs.Renamed.{letter_renamed}

count_from_at : (g : ℕ → ℕ) (k i n : ℕ) → n < k → get_or (map g (count_from k i)) n 0 ≡ g (i + n)
unfolding count_from
count_from_at g zero i n h = absurd (omega arith)
count_from_at g (suc k) i zero h = rw add-zero
count_from_at g (suc k) i (suc n) h = let e : suc i + n ≡ i + suc n = omega arith in rw e at (count_from_at g k (suc i) n (omega arith))

pub tabled_at : (f : ℕ → ℕ) (table : List ℕ) (n : ℕ) → Tabled f table → n < length table → get_or table n 0 ≡ rename_number f n
tabled_at f table n t h = ap (λ l. get_or l n 0) t ∙ count_from_at (rename_number f) (length table) 0 n h ∙ rw zero-add

count_range : (n i : ℕ) → range_with_len i n ≡ count_from n i
unfolding count_from
count_range zero i = refl
count_range (suc n) i = ap (i ∷◌) (rw (← add-one i) (count_range n (i + 1)))

-- a list made by calls of a function that leaves itself as it was
module _ {F : Type 0} {g : Mut F (ℕ × Unit {0}) ℕ} {call : F} (table : List ℕ)
    (calls : (i y : ℕ) (q : F) → Called g call (i, tt) y q → (q ≡ call) × (y ≡ i)) where
  own_number : (n i k : ℕ) → IsFromFnResultFrom g call table i n → i ≤ k → k < i + n → get_or table k 0 ≡ k
  own_number zero i k m h l = absurd (omega arith)
  own_number (suc n) i k (q, y, at, c, rest) h l =
      ⊎_elim (λ e. rw (← e) (at.1 0 ∙ (calls i y q c).1)) (λ b. own_number n (i + 1) k (rw (calls i y q c).0 at rest) (omega arith) (omega arith))
      (eq-or-lt_of_le h)

-- the 16 numbers of a table are the new ones of the numbers below 16
pub record HasNew (f : ℕ → ℕ) (table : List ℕ) : Type 0 where
  pub long : length table ≡ 16
  pub at : (k : ℕ) → k < 16 → get_or table k 0 ≡ f k

no_numbers : (names : List ℕ) (n : ℕ) → renamed names [] n ≡ n
unfolding renamed
no_numbers [] n = refl
no_numbers (m ∷ ms) n = refl

module _ (names numbers : List ℕ) where
  not_renamed : (i n : ℕ) → (length names ≤ i) ⊎ (length numbers ≤ i) → renamed (drop i names) (drop i numbers) n ≡ n
  unfolding renamed
  not_renamed i n h =
      ⊎_elim (λ l. rw (drop_of_length-le names l)) (λ l. rw (drop_of_length-le numbers l) (no_numbers (drop i names) n)) h

  -- behind the names each number is its own
  pub own_numbers : {F : Type 0} {g : Mut F (ℕ × Unit {0}) ℕ} {call : F} (i : ℕ) (table : List ℕ) → (length names ≤ i) ⊎ (length numbers ≤ i)
      → IsFromFnResult g call table 16 → ((i y : ℕ) (q : F) → Called g call (i, tt) y q → (q ≡ call) × (y ≡ i))
      → HasNew (renamed (drop i names) (drop i numbers)) table
  own_numbers i table h made calls =
      record {
        long = made.long;
        at = λ k l. own_number table calls 16 0 k made.each (omega arith) (omega arith) ∙ sym (not_renamed i k h);
      }

  -- one name more
  module _ (i : ℕ) (table : List ℕ) (h : i < length names) (h' : i < length numbers)
      (t : HasNew (renamed (drop (i + 1) names) (drop (i + 1) numbers)) table) where
    abbrev m : ℕ
    m = get_or names i 0

    abbrev p : ℕ
    p = get_or numbers i 0

    first_renamed : (k : ℕ) → k ≡ m → p ≡ renamed (drop i names) (drop i numbers) k
    first_renamed k e = rw (drop_one names i h, drop_one numbers i h') (sym (renamed_first m p (drop (i + 1) names) (drop (i + 1) numbers) k e))

    later_renamed : (k : ℕ) → k < 16 → (k ≡ m → ⊥) → get_or table k 0 ≡ renamed (drop i names) (drop i numbers) k
    later_renamed k l n =
        t.at k l ∙ rw (drop_one names i h, drop_one numbers i h') (sym (renamed_later m p (drop (i + 1) names) (drop (i + 1) numbers) k n))

    pub new_written : m < 16 → HasNew (renamed (drop i names) (drop i numbers)) (set table m p)
    new_written small =
        record {
          long = length-set table m p ∙ t.long;
          at = λ k l.
              ⊎_elim (λ e. get_or-set_at table m k p 0 e (omega (arith, t.long)) ∙ first_renamed k e)
              (λ n. get_or-set_other table m k p 0 n ∙ later_renamed k l n) (cases_eq k m);
        }

    pub new_large : 16 ≤ m → HasNew (renamed (drop i names) (drop i numbers)) table
    new_large large = record { long = t.long; at = λ k l. later_renamed k l (λ e. omega arith) }

pub table_made : (f : ℕ → ℕ) (table : List ℕ) → HasNew f table → Tabled f table
table_made f table h =
    fill_by_all (rename_number f) table (length table) 0 refl
    (λ k l. let s : k < 16 = omega (arith, h.long) in h.at k s ∙ letter_renamed f k (omega arith))
    ∙ ap (rename_run f) (count_range (length table) 0)
