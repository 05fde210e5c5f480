-- What the first difference of two spelled lists tells of the lists.
use Prim.Native.Nat.{compare}
use Rattle.std.proofs.Common.{◌≡◌, ℕ, List, take, take_all, sym, ap, ◌∙◌, arith}
use Rattle.std.specs.Prelude.{Option, Some, None}
use Rattle.std.specs.Slice.{IsItemAt}
use denote.Ref.{Bor}
use Rattle.std.specs.declared.cmp.Ordering as answered
use Rattle.std.specs.declared.cmp.Ordering.TheVariants.{Equal}
use Rattle.terms.specs.Compare.{order_numbers}
use Rattle.terms.specs.Differ.{differ_at}
use Rattle.terms.specs.Promises.{ordering_of, Differs}
use Rattle.terms.specs.Theory.Order.{compare_order}
use Rattle.terms.specs.Theory.Differ.{differ_same}
use Rattle.terms.proofs.Compared.{compare_lent, compares_same, compares_at}
use Rattle.words.specs.Spelled.{ends}
use Rattle.words.specs.WordLists.{ComparesLists}
use Rattle.words.specs.Theory.Spelled.{spelled_order}
use Rattle.words.specs.Theory.Differ.{spelled_place}

module _ {xs ys : List ℕ} {n : ℕ} where
  -- the promise, from the order of the numbers and how many words end before they differ
  compares : (o : answered.Ordering) → ordering_of o ≡ order_numbers xs ys → n ≡ ends (take (differ_at compare xs ys) xs)
      → ComparesLists xs ys (record { order = o; place = n })
  compares o e d =
      record {
        numbers = e;
        order = λ us vs p q. e ∙ rw (p, q) (spelled_order us vs);
        place = λ us vs p q. d ∙ rw (p, q) (spelled_place us vs);
      }

  pub parted_at : (k : ℕ) → Differs xs ys (Some k) → (p q : Option (Bor ℕ)) → IsItemAt xs k p → IsItemAt ys k q → (o : answered.Ordering)
      → o ≡ compare_lent p q → n ≡ ends (take k xs) → ComparesLists xs ys (record { order = o; place = n })
  parted_at k d p q P Q o e f = compares o (compares_at k d p q P Q e).numbers (f ∙ ap (λ m. ends (take m xs)) d.numbers.1)

  -- lists that do not differ agree up to their end
  pub parted_nowhere : Differs xs ys None → n ≡ ends xs → ComparesLists xs ys (record { order = Equal; place = n })
  parted_nowhere d f = compares Equal (compares_same d).numbers (f ∙ ap ends (sym (whole d.numbers)))
    where
      whole : xs ≡ ys → take (differ_at compare xs ys) xs ≡ xs
      whole e = rw (← e) (take_all (differ_at compare xs xs) xs (omega (arith, differ_same compare_order xs)))
