-- What is claimed of WEIGH's search where nodes run out, for any list of laws and any weights of at least 1: of a path in hand, of a none, and of what
-- more nodes can change.
use Rattle.std.specs.Prelude.{ℕ, ◌+◌, ◌-◌, ◌≤◌, ◌≡◌, ◌↔◌, false, List, [], ◌∷◌, ◌++◌}
use Rattle.terms.specs.Lists.{◌∈◌}
use Rattle.terms.specs.Compare.{lt}
use Rattle.terms.specs.Term.{Term}
use Rattle.search.specs.Law.{Law}
use Rattle.search.specs.Line.{Line, Limits}
use Rattle.search.specs.Path.{Searchable, Path}
use Rattle.weigh.specs.Weigh.{Weights, weight, Weighed, by_total, weighed}
use Rattle.weigh.specs.Outcome.{Outcome, proved, atmost, unproved, Returns, weigh}
use Rattle.weigh.specs.Claims.{None}

-- a lightest path is returned
abbrev pub Proved : Outcome → Type 0
Proved o = (xs : List Line) × (e : ℕ) × (n : ℕ) × (o ≡ proved xs e n)

-- a path in hand is returned
abbrev pub AtMost : Outcome → Type 0
AtMost o = (xs : List Line) × (l : ℕ) × (e : ℕ) × (n : ℕ) × (o ≡ atmost xs l e n)

-- z is what is noted of the term t
abbrev pub Holds : List Weighed → Term → Weighed → Type 0
Holds noted t z = z ∈ noted × (z.term ≡ t)

abbrev pub Noted : List Weighed → Term → Type 0
Noted noted t = (z : Weighed) × Holds noted t z

-- the smallest total among noted, unopened terms
pub record Smallest (noted : List Weighed) (l : ℕ) : Type 0 where
  pub one : (z : Weighed) × z ∈ noted × (z.opened ≡ false) × (z.total ≡ l)
  pub least : (z : Weighed) → z ∈ noted → z.opened ≡ false → l ≤ z.total

-- the same size and depth, and a node limit that is no greater
pub record FewerNodes (k m : Limits) : Type 0 where
  pub size : k.size ≡ m.size
  pub depth : k.depth ≡ m.depth
  pub nodes : k.nodes ≤ m.nodes

pub record HandClaims (ws : List Law) (w : Weights) (cost : ℕ) (m : Limits) (left right : Term) : Type 0 where
  -- an atmost gives the path held for right, where as many terms are opened as may be
  pub held : (xs : List Line) (l e n : ℕ) → weigh ws w cost m left right ≡ atmost xs l e n
      → (z : Weighed) × Holds (weighed ws w cost m left right) right z × (z.trail ≡ xs)
  pub limit : (xs : List Line) (l e n : ℕ) → weigh ws w cost m left right ≡ atmost xs l e n → e ≡ m.nodes
  -- right had not come up: another noted, unopened term comes before it, by total, ties in term order
  pub before : (xs : List Line) (l e n : ℕ) → weigh ws w cost m left right ≡ atmost xs l e n
      → (z : Weighed) → Holds (weighed ws w cost m left right) right z
      → (x : Weighed) × x ∈ weighed ws w cost m left right × (x.opened ≡ false) × (by_total x z ≡ lt)
  -- atleast is the smallest total among noted, unopened terms
  pub atleast : (xs : List Line) (l e n : ℕ) → weigh ws w cost m left right ≡ atmost xs l e n → Smallest (weighed ws w cost m left right) l
  -- no path of searchable lines weighs less than it
  pub none_lighter : (xs ys : List Line) (l e n : ℕ) → weigh ws w cost m left right ≡ atmost xs l e n → Path (Searchable ws m) left ys right → l ≤ weight w ys
  -- so the printed one, which weighs at least as much as it, is heavier than any other, the lightest among them, by no more than the difference
  pub within : (xs : List Line) (l e n : ℕ) → weigh ws w cost m left right ≡ atmost xs l e n → l ≤ weight w xs
  pub near : (xs ys : List Line) (l e n : ℕ) → weigh ws w cost m left right ≡ atmost xs l e n → Path (Searchable ws m) left ys right
      → weight w xs ≤ weight w ys + (weight w xs - l)
  -- than atleast it is heavier by no more than its last line weighs
  pub small : (ys : List Line) (y : Line) (l e n : ℕ) → weigh ws w cost m left right ≡ atmost (ys ++ (y ∷ [])) l e n
      → weight w (ys ++ (y ∷ [])) ≤ l + w y.law
  -- of the answers that are not proved, an atmost is given exactly where right is noted
  pub in_hand : (Proved (weigh ws w cost m left right) → ⊥) → AtMost (weigh ws w cost m left right) ↔ Noted (weighed ws w cost m left right) right
  -- a none means that right was never noted, however many terms were opened
  pub never_noted : None (weigh ws w cost m left right) → (k : Limits) → FewerNodes k m → Noted (weighed ws w cost k left right) right → ⊥
  -- with more nodes a path is returned that is no heavier than the one in hand, and no lighter than atleast
  pub gain : (xs : List Line) (l e n : ℕ) → weigh ws w cost m left right ≡ atmost xs l e n → (k : Limits) → FewerNodes m k
      → (ys : List Line) × Returns (weigh ws w cost k left right) ys × (l ≤ weight w ys) × (weight w ys ≤ weight w xs)
  -- and a proved answer stays, as does a none that is not cut
  pub proved_stays : (xs : List Line) (e n : ℕ) → weigh ws w cost m left right ≡ proved xs e n → (k : Limits) → FewerNodes m k
      → weigh ws w cost k left right ≡ proved xs e n
  pub none_stays : (e n : ℕ) → weigh ws w cost m left right ≡ unproved e n false → (k : Limits) → FewerNodes m k
      → weigh ws w cost k left right ≡ unproved e n false
