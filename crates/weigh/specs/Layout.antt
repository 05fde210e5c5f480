-- The seven lines of a WEIGH job.
use Rattle.std.specs.Prelude.{ℕ, true, false, List, [], ◌∷◌, length, eqb}
use Prim.Native.Char.{code}
use Rattle.std.proofs.Math.Option.{Option, none, some, bind as ◌>>=◌}
use Rattle.search.specs.Line.{Limits}
use Rattle.text.specs.Bytes.{read_number, pieces, end}
use Rattle.text.specs.Layout.{keyed, limit_line}

-- the numbers in pieces
unfoldable pub read_numbers : List (List ℕ) → Option (List ℕ)
unfolding ◌>>=◌ read_number
read_numbers [] = some []
read_numbers (p ∷ ps) = do
  n ← read_number p
  ns ← read_numbers ps
  some (n ∷ ns)

-- so many numbers, no more and no fewer
unfoldable pub so_many : ℕ → List ℕ → Option (List ℕ)
so_many k ns = elim (eqb (length ns) k) [ true ↦ some ns | false ↦ none ]

-- the last line: a weight for each of k laws, in law order, parted by spaces
unfoldable pub weights_line : ℕ → List ℕ → Option (List ℕ)
unfolding ◌>>=◌ keyed pieces read_numbers so_many end
weights_line k bs = do
  c ← keyed "weights=" bs
  ns ← read_numbers (pieces (code " ") c.front)
  w ← so_many k ns
  end w c.rest

-- the sides as they are written, cost, limits and weights read; a WEIGH job has no steps
pub record WeighLayout : Type 0 where
  pub left : List ℕ
  pub right : List ℕ
  pub cost : ℕ
  pub limits : Limits
  pub weights : List ℕ

unfoldable pub weigh_layout : ℕ → List ℕ → Option WeighLayout
unfolding ◌>>=◌ keyed limit_line weights_line
weigh_layout k bs = do
  l ← keyed "left=" bs
  r ← keyed "right=" l.rest
  c ← limit_line "cost=" r.rest
  z ← limit_line "size=" c.rest
  d ← limit_line "depth=" z.rest
  n ← limit_line "nodes=" d.rest
  w ← weights_line k n.rest
  some (record {
    left = l.front;
    right = r.front;
    cost = c.number;
    limits = record { steps = 0; size = z.number; depth = d.number; nodes = n.number };
    weights = w;
  })
