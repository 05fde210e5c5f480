-- The word in a slot: where the slot is past the end, and where its letters are.
use Rattle.std.proofs.Common.{◌≡◌, ℕ, ◌-◌, ◌*◌, ◌<◌, ◌≤◌, List, [], ◌∷◌, length, take, drop, sym, ap, ◌∙◌, arith, length-drop}
use lib.ListN.{get_or-eq_default}
use borrow.Rule.Slice.PartMut.{mid_of}
use Rattle.terms.proofs.Positions.{drop_head}
use Rattle.words.specs.Spelled.{SLOT, word_at}
use Rattle.words.proofs.Parts.{end_lent}

module _ (ws : List ℕ) (k : ℕ) where
  pub no_slot : length ws ≤ SLOT * k → [] ≡ word_at ws k
  unfolding word_at
  no_slot h = rw (get_or-eq_default ws 0 h)

  -- its length, then its letters and what follows
  pub slot_found : (start x : ℕ) (rest : List ℕ) → (start < length ws → start ≡ SLOT * k) → mid_of start (length ws - start) ws ≡ x ∷ rest → take x rest ≡ word_at ws k
  unfolding word_at
  slot_found start x rest h e =
      let d : drop start ws ≡ x ∷ rest = sym (end_lent ws start) ∙ e in
      let s : start ≡ SLOT * k = h (omega (arith, ap length d, length-drop start ws)) in
      let p = drop_head ws (SLOT * k) x rest (rw s at d) in
      rw (p.1, p.2)
