-- Texts put into a writer, one after the other.
use Prim.Native.Nat.{ℕ, ◌+◌, ◌<◌}
use mathlib.Core.Path.{◌≡◌, refl, sym, ap, subst, ◌∙◌}
use mathlib.Core.List.{List, [], ◌++◌, append-nil, flat_map}
use lib.ListN.{length, get_or, take}
use denote.Ref.{at_last}
use Rattle.std.proofs.lemmas.List.{take_more, flat_map_more}
use Rattle.text.specs.Writer.{Writes, SameOutput}
use Rattle.text.specs.declared.writer.Writer.{Writer}
use Rattle.text.proofs.Overlay as overlay

-- two texts in a row are one
pub then : {ys zs : List ℕ} {o o₁ o₂ : Writer} → Writes ys o o₁ → Writes zs o₁ o₂ → Writes (ys ++ zs) o o₂
then {o₂ = o₂} p q = record { put = overlay.then p.put q.put; same = q.same ∙ ap (λ b. at_last b o₂.buf.now) p.same }

-- the same text, said another way
pub put_as : {ys zs : List ℕ} {o o₁ : Writer} → ys ≡ zs → Writes ys o o₁ → Writes zs o o₁
put_as {o = o} {o₁} e p = subst (λ t. Writes t o o₁) e p

-- nothing put
pub put_none : (o : Writer) → Writes [] o o
put_none o = record { put = overlay.put_none o.buf.now o.at o.room o.place; same = refl }

-- nothing follows
pub put_last : {t : List ℕ} {o o₁ : Writer} → Writes t o o₁ → Writes (t ++ []) o o₁
put_last {t} p = put_as (sym (append-nil t)) p

pub put_each_more : {A : Type 0} (f : A → List ℕ) (d : A) (xs : List A) (i : ℕ) {o o₁ o₂ : Writer} → i < length xs
    → Writes (flat_map f (take i xs)) o o₁ → Writes (f (get_or xs i d)) o₁ o₂ → Writes (flat_map f (take (i + 1) xs)) o o₂
unfolding flat_map
put_each_more f d xs i h p q =
    put_as (sym (ap (flat_map f) (take_more xs i d h) ∙ sym (flat_map_more f [] (take i xs) (get_or xs i d)))) (then p q)

-- what is put stays in the output
pub same_output : {t : List ℕ} {o o₁ : Writer} → Writes t o o₁ → SameOutput o o₁
same_output {o = o} {o₁} p = (p.same, ap length p.put.bytes ∙ overlay.length_overlay o.buf.now o.at _)

pub same_after : (o o₁ o₂ : Writer) → SameOutput o o₁ → SameOutput o₁ o₂ → SameOutput o o₂
same_after o o₁ o₂ p q = (q.0 ∙ ap (λ b. at_last b o₂.buf.now) p.0, q.1 ∙ p.1)
