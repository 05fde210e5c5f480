-- A none is the whole search without a right side.
use Rattle.std.specs.Prelude.{ℕ, suc, ◌≡◌, refl, Bool, true, false, List, [], ◌∷◌, length}
use Rattle.std.proofs.Common.{sym, ◌∙◌}
use Rattle.std.proofs.lemmas.Bool.{false≢true}
use Rattle.std.proofs.Math.Option.{Option, none, some}
use Rattle.terms.specs.Term.{Term}
use Rattle.terms.specs.Theory.Reflects.{Reflects}
use Rattle.search.specs.Law.{Law, Name}
use Rattle.search.specs.Line.{Limits}
use Rattle.search.specs.Search.{is_noted, proved, unproved, direct, whole_line, search}
use Rattle.search.specs.Explore.{explored}
use Rattle.search.specs.Theory.Grows.{Knows, is_noted_reflects}
use Rattle.search.specs.Theory.LookUp.{meets_knows, Searched, search_explored}

module _ (ws : List Law) (m : Limits) (left right : Term) where
  pub record None (e n : ℕ) : Type 0 where
    pub no_direct : direct ws left right ≡ none
    pub opened : e ≡ (explored ws m left).opened
    pub count : n ≡ length (explored ws m left).noted
    pub unknown : Knows (explored ws m left).noted right → ⊥

  pub unproved_none : (left ≡ right → ⊥) → (e n : ℕ) → search ws m left right ≡ unproved e n → None e n
  unproved_none differ e n eq = go (direct ws left right) refl
    where
      all_looked_up : Searched ws m left right
      all_looked_up = search_explored ws m left right

      by_known : direct ws left right ≡ none → (b : Bool) → Reflects (Knows (explored ws m left).noted right) b → None e n
      by_known q true k =
          let (z, p, j, meets) = (all_looked_up.looked_up q).comes differ k in
          let f : proved z.trail (suc p) (suc j) ≡ unproved e n = sym ((all_looked_up.looked_up q).met z p j meets) ∙ eq in
          absurd (false≢true (cc))
      by_known q false k =
          let f : unproved (explored ws m left).opened (length (explored ws m left).noted) ≡ unproved e n
          = sym ((all_looked_up.looked_up q).missed (λ z p j meets. k (meets_knows meets))) ∙ eq in
          record { no_direct = q; opened = cc; count = cc; unknown = k }

      go : (o : Option Name) → direct ws left right ≡ o → None e n
      go none q = by_known q (is_noted right (explored ws m left).noted) (is_noted_reflects right (explored ws m left).noted)
      go (some w) q =
          let f : proved (whole_line w right ∷ []) 0 0 ≡ unproved e n = sym (all_looked_up.matched w q) ∙ eq in
          absurd (false≢true (cc))
