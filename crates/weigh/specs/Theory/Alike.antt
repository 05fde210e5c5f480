-- Where every law weighs 1, WEIGH and FIND answer by paths of as many lines, if no law matches the whole equation.
use Rattle.std.specs.Prelude.{ℕ, ◌≡◌, refl, List, [], ◌∷◌, length}
use Rattle.std.proofs.Common.{arith, sym}
use Rattle.std.proofs.Math.Option.{none}
use Rattle.terms.specs.Term.{Term}
use Rattle.search.specs.Law.{Law, Name}
use Rattle.search.specs.Line.{Line, Limits}
use Rattle.search.specs.Search as find
use Rattle.search.specs.Search.{direct, search}
use Rattle.search.specs.Theory.Claims.{path_map, proved_searchable}
use Rattle.weigh.specs.Weigh.{Weights, weight}
use Rattle.weigh.specs.Outcome.{proved, weigh}
use Rattle.weigh.specs.Claims.{Heavy}
use Rattle.weigh.specs.Theory.Claims.{proved_lightest}
use Rattle.weigh.specs.Theory.More.{same_lines}

module _ (w : Weights) (ones : (n : Name) → w n ≡ 1) where
  ones_heavy : Heavy w
  ones_heavy n = omega (arith, ones n)

  -- a path weighs as much as it has lines
  pub ones_weight : (xs : List Line) → weight w xs ≡ length xs
  unfolding weight
  ones_weight [] = refl
  ones_weight (x ∷ xs) = omega (arith, ones x.law, ones_weight xs)

  pub totals_are_steps : (ws : List Law) (m k : Limits) → m.size ≡ k.size → m.depth ≡ k.depth → (cost : ℕ) (left right : Term) → (left ≡ right → ⊥)
      → direct ws left right ≡ none → (xs ys : List Line) (e n f l : ℕ) → search ws m left right ≡ find.proved xs e n
      → weigh ws w cost k left right ≡ proved ys f l → weight w ys ≡ length xs
  totals_are_steps ws m k same_size same_depth cost left right differ indirect xs ys e n f l found weighed =
      let (path, shortest) = proved_searchable ws m left right differ indirect xs e n found in
      let (other, lightest) = proved_lightest ws w ones_heavy cost k left right ys f l weighed in
      omega (
        arith,
        shortest ys (path_map (same_lines (sym same_size) (sym same_depth)) other),
        lightest xs (path_map (same_lines same_size same_depth) path),
        ones_weight xs,
        ones_weight ys,
      )
