-- Words joined: a word to each of several, and each of several to each of others.
use Rattle.std.proofs.Common.{◌≡◌, ℕ, ◌+◌, ◌≤◌, List, [], ◌∷◌, ◌++◌, map, sym, refl, ap, ◌∙◌, append-nil, add-one, arith}
use mathlib.Core.List.{map-append}
use Rattle.words.specs.Words.{Word, products}
use Rattle.words.specs.Spelled.{word_at}
use Rattle.words.specs.Multiply.{Between, none, more, Puts, Fits, PutsWords, JoinsRow, Joins}
use Rattle.words.specs.Theory.Products.{products_append}
use Rattle.words.proofs.Stand.{in_slot_word, between_end, between_last}
use Rattle.words.proofs.Puts.{puts_none, puts_both}

-- what F makes of the words in the slots from..to of xs is put
abbrev Each : (List Word → List Word) → (xs : List ℕ) (from to : ℕ) (ws : List ℕ) (j k : ℕ) (ws' : List ℕ) → Type 0
Each F xs from to ws j k ws' = (us : List Word) → Between xs from to us → Fits (F us) ws j → Puts (F us) ws j k ws'

-- no words in no slots
between_none : {ws : List ℕ} {j : ℕ} {us : List Word} → Between ws j j us → us ≡ []
between_none (none e) = refl
between_none (more s b) = absurd (omega (arith, between_end b))

module _ (F : List Word → List Word) (xs : List ℕ) (from : ℕ) (ws : List ℕ) (j : ℕ) where
  each_none : F [] ≡ [] → Each F xs from from ws j j ws
  each_none e us b f = rw (between_none b, e) (puts_none ws j)

  module _ (i k : ℕ) (ws₁ : List ℕ) (r : Each F xs from i ws j k ws₁) where
    -- one word more, of which F makes the words g
    each_next : (g : List Word) (l : ℕ) (ws₂ : List ℕ) → ((us : List Word) → F (us ++ (word_at xs i ∷ [])) ≡ F us ++ g)
        → (Fits g ws₁ k → Puts g ws₁ k l ws₂) → from ≤ i → Each F xs from (i + 1) ws j l ws₂
    each_next g l ws₂ e p h us b =
        let z = between_last h (rw add-one at b) in
        let all : F us ≡ F z.firsts ++ g = ap F z.are ∙ ap (λ v. F (z.firsts ++ (v ∷ []))) (sym (in_slot_word z.in_slot)) ∙ e z.firsts in
        rw all (λ f. puts_both f (r z.firsts z.there) p)

    each_done : (to : ℕ) → to ≤ i → (from ≤ to → i ≤ to) → Each F xs from to ws j k ws₁
    each_done to h g us b = let n = between_end b in let e : to ≡ i = omega (arith, g (omega arith)) in r us (rw e at b)

pub row_none : (u : Word) (xs : List ℕ) (from : ℕ) (ws : List ℕ) (j : ℕ) → JoinsRow u xs from from ws j j ws
row_none u xs from ws j = record { few = λ h. h; exact = each_none (map (u ++◌)) xs from ws j refl }

module _ {u : Word} {xs : List ℕ} {from i : ℕ} {ws : List ℕ} {j k : ℕ} {ws₁ : List ℕ} (r : JoinsRow u xs from i ws j k ws₁) where
  pub row_next : {v : Word} {l : ℕ} {ws₂ : List ℕ} → v ≡ word_at xs i → PutsWords ((u ++ v) ∷ []) ws₁ k l ws₂ → from ≤ i → JoinsRow u xs from (i + 1) ws j l ws₂
  row_next {v} {l} {ws₂} e p h =
      record {
        few = λ q. p.few (r.few q);
        exact = each_next (map (u ++◌)) xs from ws j i k ws₁ r.exact ((u ++ v) ∷ []) l ws₂ (λ us. rw (e, map-append)) p.exact h;
      }

  pub row_done : (to : ℕ) → to ≤ i → (from ≤ to → i ≤ to) → JoinsRow u xs from to ws j k ws₁
  row_done to h g = record { few = r.few; exact = each_done (map (u ++◌)) xs from ws j i k ws₁ r.exact to h g }

pub join_none : (xs : List ℕ) (from right to : ℕ) (ws : List ℕ) (j : ℕ) → Joins xs from from right to ws j j ws
unfolding products
join_none xs from right to ws j = record { few = λ h. h; exact = λ us vs b c. each_none (λ ts. products ts vs) xs from ws j refl us b }

module _ {xs : List ℕ} {from i right to : ℕ} {ws : List ℕ} {j k : ℕ} {ws₁ : List ℕ} (r : Joins xs from i right to ws j k ws₁) where
  pub join_next : {u : Word} {l : ℕ} {ws₂ : List ℕ} → u ≡ word_at xs i → JoinsRow u xs right to ws₁ k l ws₂ → from ≤ i → Joins xs from (i + 1) right to ws j l ws₂
  unfolding products
  join_next {u} {l} {ws₂} e p h =
      record {
        few = λ q. p.few (r.few q);
        exact = λ us vs b c.
            each_next (λ ts. products ts vs) xs from ws j i k ws₁ (λ ts d. r.exact ts vs d c) (map (u ++◌) vs) l ws₂
            (λ ts. rw (e, products_append, append-nil)) (p.exact vs c) h us b;
      }

  pub join_done : (middle : ℕ) → middle ≤ i → (from ≤ middle → i ≤ middle) → Joins xs from middle right to ws j k ws₁
  join_done middle h g =
      record { few = r.few; exact = λ us vs b c. each_done (λ ts. products ts vs) xs from ws j i k ws₁ (λ ts d. r.exact ts vs d c) middle h g us b }
