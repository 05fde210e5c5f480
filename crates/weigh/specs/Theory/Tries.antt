-- The allowed lines of a term are its searchable lines, but for those back to it.
use Rattle.std.specs.Prelude.{◌≡◌, ◌⊎◌, Bool, true, false, List}
use Rattle.std.proofs.Common.{inl, inr}
use Rattle.terms.specs.Lists.{◌∈◌}
use Rattle.terms.specs.Term.{Term, same}
use Rattle.terms.specs.Theory.Reflects.{Reflects}
use Rattle.terms.specs.Theory.TermOrder.{same_reflects}
use Rattle.search.specs.Law.{Law}
use Rattle.search.specs.Line.{Line, Limits, lines, allowed}
use Rattle.search.specs.Path.{Searchable}
use Rattle.search.specs.Theory.Lines.{lines_sound, lines_complete}
use Rattle.search.specs.Theory.Results.{allowed_member, allowed_has}
use Rattle.weigh.specs.Theory.State.{Tries}

pub tries : (ws : List Law) (m : Limits) → Tries (Searchable ws m) (λ t. allowed m (lines ws t))
tries ws m =
    record {
      sound = λ t x k.
          let (n, within) = allowed_member m (lines ws t) k in
          record { usable = (lines_sound ws t x n).usable; size = within.0; depth = within.1 };
      complete = λ t x h. go t x h (same x.result t) (same_reflects x.result t);
    }
  where
    go : (t : Term) (x : Line) → Searchable ws m t x → (b : Bool) → Reflects (x.result ≡ t) b → (x.result ≡ t) ⊎ x ∈ allowed m (lines ws t)
    go t x h true e = inl e
    go t x h false e = inr (allowed_has m (lines ws t) (lines_complete ws t x (record { usable = h.usable; differs = e })) (h.size, h.depth))
