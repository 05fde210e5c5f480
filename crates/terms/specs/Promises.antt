-- What each function promises of its answer r, on lists of numbers and on the runs of terms.
use Prim.Native.Nat.{ℕ, ◌+◌, ◌<◌, ◌≤◌, compare}
use Rattle.std.specs.Prelude.{◌≡◌, Bool, true, List, ◌++◌, length, drop, Option, Some, None}
use Rattle.std.specs.declared.cmp.Ordering as answered
use Rattle.std.specs.declared.cmp.Ordering.TheVariants.{Less, Equal, Greater}
use Rattle.std.proofs.Math.Dec.{compare_is_eq}
use Rattle.terms.specs.Compare.{Ordering, lt, eq, gt, order_numbers}
use Rattle.terms.specs.Differ.{differ_at, DifferAt}
use Rattle.terms.specs.Term.{Term, size, depth, order, same}
use Rattle.terms.specs.Letters.{letters, rising, variables}
use Rattle.terms.specs.Run.{run}
use Rattle.terms.specs.Held.{IsRun, Holds}
use Rattle.terms.specs.Numbers.{read_run, is_some, end_at, depth_of, letters_of}
use Rattle.terms.specs.declared.term.Extent.{Extent}

-- how two lists of numbers differ: first at a place, or not at all; a list that is a beginning of the other differs from it at its end
abbrev pub ListsDiffer : List ℕ → List ℕ → Option ℕ → Type 0
ListsDiffer xs ys (Some k) = (xs ≡ ys → ⊥) × (k ≡ differ_at compare xs ys)
ListsDiffer xs ys None = xs ≡ ys

-- how two terms differ: first at a place of both their runs, or they are the same term
abbrev pub TermsDiffer : Term → Term → Option ℕ → Type 0
TermsDiffer s t (Some k) = DifferAt (run s) (run t) k × (k < size s) × (k < size t)
TermsDiffer s t None = s ≡ t

-- of `first_difference`
pub record Differs (xs ys : List ℕ) (r : Option ℕ) : Type 0 where
  pub numbers : ListsDiffer xs ys r
  pub terms : (s t : Term) → IsRun xs s → IsRun ys t → TermsDiffer s t r

-- what the code answers of two items, as the comparison of the definitions
abbrev pub ordering_of : answered.Ordering → Ordering
ordering_of Less = lt
ordering_of Equal = eq
ordering_of Greater = gt

-- of `compare`
pub record Compares (xs ys : List ℕ) (r : answered.Ordering) : Type 0 where
  pub numbers : ordering_of r ≡ order_numbers xs ys
  pub terms : (s t : Term) → IsRun xs s → IsRun ys t → ordering_of r ≡ order s t

-- of `equal`
pub record Equals (xs ys : List ℕ) (r : Bool) : Type 0 where
  pub numbers : r ≡ compare_is_eq (order_numbers xs ys)
  pub terms : (s t : Term) → IsRun xs s → IsRun ys t → r ≡ same s t

-- the first of two unless the second comes before it
abbrev pub smaller_of : {A : Type 0} → Ordering → A → A → A
smaller_of lt a b = a
smaller_of eq a b = a
smaller_of gt a b = b

-- two in order: exchanged if the second comes before the first
abbrev pub in_order_of : {A : Type 0} → Ordering → A → A → A × A
in_order_of lt a b = (a, b)
in_order_of eq a b = (a, b)
in_order_of gt a b = (b, a)

-- of `in_order`, where a and b are lent runs with the numbers xs and ys
pub record InOrder {A : Type 0} (xs ys : List ℕ) (a b : A) (r : A × A) : Type 0 where
  pub numbers : r ≡ in_order_of (order_numbers xs ys) a b
  pub terms : (s t : Term) → IsRun xs s → IsRun ys t → r ≡ in_order_of (order s t) a b

-- of `smaller`, where a and b are lent runs with the numbers xs and ys
pub record Smaller {A : Type 0} (xs ys : List ℕ) (a b r : A) : Type 0 where
  pub numbers : r ≡ smaller_of (order_numbers xs ys) a b
  pub terms : (s t : Term) → IsRun xs s → IsRun ys t → r ≡ smaller_of (order s t) a b

-- of `end_of`
pub record Ends (xs : List ℕ) (at r : ℕ) : Type 0 where
  pub is : r ≡ end_at xs at
  pub forward : at ≤ r
  pub within : at ≤ length xs → r ≤ length xs
  pub exact : (t : Term) → Holds xs at t → r ≡ at + size t

-- of `size`
pub record Sized (xs : List ℕ) (r : ℕ) : Type 0 where
  pub is : r ≡ length xs
  pub terms : (t : Term) → IsRun xs t → r ≡ size t

-- of `extent_of`
pub record Extends (xs : List ℕ) (at : ℕ) (r : Extent) : Type 0 where
  pub ends : r.end ≡ end_at xs at
  pub deep : r.depth ≡ depth_of (drop at xs)
  pub forward : at ≤ r.end
  pub fits : r.depth ≤ length xs

-- of `depth`
pub record Deep (xs : List ℕ) (r : ℕ) : Type 0 where
  pub is : r ≡ depth_of xs
  pub terms : (t : Term) → IsRun xs t → r ≡ depth t

-- of `is_run`
pub record Reads (xs : List ℕ) (r : Bool) : Type 0 where
  pub is : r ≡ is_some (read_run xs)
  pub sound : r ≡ true → (t : Term) × IsRun xs t
  pub complete : (t : Term) → IsRun xs t → r ≡ true

-- of `insert` and `gather`: the list fills the front of out, whose rest is kept; or it is longer than out
abbrev pub Fills : List ℕ → List ℕ → Option ℕ → List ℕ → Type 0
Fills xs out (Some n) out' = (n ≡ length xs) × (n ≤ length out) × (out' ≡ xs ++ drop n out)
Fills xs out None out' = (length out < length xs) × (length out' ≡ length out)

-- of `letters`
pub record Lists (xs ys out : List ℕ) (r : Option ℕ) (out' : List ℕ) : Type 0 where
  pub numbers : Fills (rising (letters_of xs ++ letters_of ys)) out r out'
  pub terms : (s t : Term) → IsRun xs s → IsRun ys t → Fills (rising (letters s ++ letters t)) out r out'

-- of `variables`
pub record ListsVariables (xs ys out : List ℕ) (r : Option ℕ) (out' : List ℕ) : Type 0 where
  pub numbers : Fills (rising (variables xs ++ variables ys)) out r out'
  pub terms : (s t : Term) → IsRun xs s → IsRun ys t → Fills (rising (variables (letters s ++ letters t))) out r out'
