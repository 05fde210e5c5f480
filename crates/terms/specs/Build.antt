-- Terms built from items, operator first: a token is what an item stands for.
use Rattle.std.proofs.Math.Option.{Option, none, some}
use mathlib.Core.List.{List, [], ◌∷◌}
use Rattle.terms.specs.Term.{Term, add, mul}

pub data Token : Type 0 where
  atom : Term → Token
  plus times : Token

-- an operator takes two terms
unfoldable pub operate : (Term → Term → Term) → List Term → Option (List Term)
operate f [] = none
operate f (s ∷ []) = none
operate f (s ∷ t ∷ ts) = some (f s t ∷ ts)

-- one more item in front of items that make the terms ts
unfoldable pub push : Token → List Term → Option (List Term)
unfolding operate
push (atom t) ts = some (t ∷ ts)
push plus ts = operate add ts
push times ts = operate mul ts

-- the same where the item stands for nothing or the others make no terms
unfoldable pub next : Option Token → Option (List Term) → Option (List Term)
unfolding push
next none ts = none
next (some k) none = none
next (some k) (some ts) = push k ts

-- the term, where there is just one
unfoldable pub single : Option (List Term) → Option Term
single none = none
single (some []) = none
single (some (t ∷ [])) = some t
single (some (t ∷ u ∷ ts)) = none

module _ {A : Type 0} (token : A → Option Token) where
  -- the terms that items make one after the other
  unfoldable pub build : List A → Option (List Term)
  unfolding next
  build [] = some []
  build (p ∷ ps) = next (token p) (build ps)

  -- the term that items make
  unfoldable pub read : List A → Option Term
  unfolding build single
  read ps = single (build ps)
