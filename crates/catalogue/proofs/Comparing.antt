-- A list looked for in a place.
use Rattle.std.proofs.Common.{◌≡◌, ℕ, ◌-◌, Bool, true, false, List, length, get_or, take, drop, refl, sym, arith, length-drop, take_all}
use Rattle.std.specs.Bool.{Decides}
use Rattle.std.specs.Cmp.Lexicographic.{pointwise}
use Rattle.std.proofs.lemmas.Bool.{false≢true}
use Rattle.std.proofs.lemmas.Bool.Decides.{Decides-eqb}
use Rattle.std.proofs.lemmas.Slice.Eq.{slice_eq-Decides}
use lib.Dec.{eqb}
use Rattle.terms.specs.Theory.Reflects.{Reflects}
use Rattle.catalogue.specs.Stored.{LENGTH}
use Rattle.catalogue.specs.Promises.{ListAt}

-- what stands from a position on begins with the list, or not
pub list_begins : (cat : List ℕ) (size from : ℕ) (xs : List ℕ) (b : Bool) → length cat ≡ LENGTH → get_or cat size 0 ≡ length xs
    → b ≡ pointwise eqb xs (take (length xs) (take (LENGTH - from) (drop from cat))) → Reflects (ListAt cat size from xs) b
list_begins cat size from xs b whole e h = told b (slice_eq-Decides Decides-eqb xs (take (length xs) (drop from cat)) b (rw behind at h))
  where
    behind : take (LENGTH - from) (drop from cat) ≡ drop from cat
    behind = take_all (LENGTH - from) (drop from cat) (simp length-drop (omega (arith, whole)))

    told : (b : Bool) → Decides b (xs ≡ take (length xs) (drop from cat)) → Reflects (ListAt cat size from xs) b
    told true d = (e, sym (d.0 refl))
    told false d = λ l. false≢true (d.1 (sym l.1))
