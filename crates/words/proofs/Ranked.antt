-- The words in slots counted one after another, and what the counts say of a run and the words sorted.
use Rattle.std.proofs.Common.{◌≡◌, ℕ, ◌+◌, ◌/◌, ◌<◌, ◌≤◌, eqb, Some, List, map, length, drop, sym, refl, ap, ◌∙◌, arith, drop-drop}
use Rattle.std.specs.List.{position}
use mathlib.Core.List.{map-append, flat_map}
use lib.ListN.{length-map}
use Rattle.terms.specs.Compare.{Ordering, lt, eq, gt, order_numbers}
use Rattle.terms.specs.Sort.{kept}
use Rattle.terms.specs.Theory.Sorted.{sort_sorted}
use Rattle.words.specs.Words.{Word, order_words, normal}
use Rattle.words.specs.Spelled.{SLOT, spelled, word_at, words_in}
use Rattle.words.specs.Rename.{count_from}
use Rattle.words.specs.RenameRun.{rename_run}
use Rattle.words.specs.WordLists.{slot_words}
use Rattle.words.specs.Theory.Bijections.{count_from_length}
use Rattle.words.specs.Theory.Order.{word_order}
use Rattle.words.specs.Rank.{first_word, if_less, if_upto, tally, Notes, Ranks, sorted_renamed}
use Rattle.words.specs.declared.candidate.rank.Rank.{Rank}
use Rattle.words.proofs.FirstWord.{word_ends}
use Rattle.words.proofs.SlotWords.{words_in_next}
use Rattle.words.proofs.Tallied.{tally_next, tally_sorted, length_sorted, greater_next, equal_next, run_before, run_same}

less_small : (o : Ordering) → if_less o ≤ 1
less_small lt = omega arith
less_small eq = omega arith
less_small gt = omega arith

upto_small : (o : Ordering) → if_upto o ≤ 1
upto_small lt = omega arith
upto_small eq = omega arith
upto_small gt = omega arith

-- the words in the first i slots are counted
pub record Counted (F : Word → Word) (ws : List ℕ) (w : Word) (i : ℕ) (k : Rank) : Type 0 where
  pub ranks : Ranks w (map F (words_in ws i)) k
  pub few_less : k.less ≤ i
  pub few_upto : k.upto ≤ i

module _ (F : Word → Word) (ws : List ℕ) (w : Word) where
  pub none_counted : Counted F ws w 0 (record { less = 0; upto = 0 })
  unfolding count_from
  none_counted = record { ranks = record { less = refl; upto = refl }; few_less = omega arith; few_upto = omega arith }

  pub one_more_counted : (i : ℕ) {k r : Rank} {x : Word} (o : Ordering) → Counted F ws w i k
      → x ≡ word_at ws i → o ≡ order_words (F x) w → Notes k o r → Counted F ws w (i + 1) r
  one_more_counted i {k} {r} {x} o c e d n =
      let us = map F (words_in ws i) in
      let p : o ≡ order_words (F (word_at ws i)) w = d ∙ ap (λ y. order_words (F y) w) e in
      record {
        ranks =
            rw (words_in_next ws i, map-append) (record {
              less = n.less ∙ ap (λ m. m + if_less o) c.ranks.less ∙ ap (λ q. tally if_less w us + if_less q) p ∙ sym (tally_next if_less w us (F (word_at ws i)));
              upto = n.upto ∙ ap (λ m. m + if_upto o) c.ranks.upto ∙ ap (λ q. tally if_upto w us + if_upto q) p ∙ sym (tally_next if_upto w us (F (word_at ws i)));
            });
        few_less = omega (arith, n.less, c.few_less, less_small o);
        few_upto = omega (arith, n.upto, c.few_upto, upto_small o);
      }

-- the sorted words from position i on, set against a run
module _ (us : List Word) (run : List ℕ) (i : ℕ) {k : Rank} (r : Ranks (first_word run) us k) where
  greater_here : k.upto ≤ i → i < length us → order_numbers run (spelled (drop i (normal kept us))) ≡ lt
  unfolding spelled flat_map
  greater_here h l =
      let (x, n, e) =
      greater_next (first_word run) (normal kept us) i (sort_sorted kept word_order us)
      (omega (arith, r.upto, tally_sorted if_upto (first_word run) us)) (omega (arith, length_sorted us)) in
      rw n.is (run_before run x (spelled n.rest) e)

  equal_here : k.less ≤ i → i < k.upto → length (first_word run) < length run
      → order_numbers run (spelled (drop i (normal kept us)))
      ≡ order_numbers (drop (length (first_word run) + 1) run) (spelled (drop (i + 1) (normal kept us)))
  unfolding spelled flat_map
  equal_here h l m =
      let w = first_word run in
      let n =
      equal_next w (normal kept us) i (sort_sorted kept word_order us) (omega (arith, r.less, tally_sorted if_less w us))
      (omega (arith, r.upto, tally_sorted if_upto w us)) in
      let t : drop (i + 1) (normal kept us) ≡ n.rest = sym (drop-drop 1 i (normal kept us)) ∙ ap (drop 1) n.is in
      rw (t, n.is) (run_same run (spelled n.rest) m)

-- the words in slots, renamed, set against the rest of a run
module _ (f : ℕ → ℕ) (ws rest : List ℕ) (i : ℕ) {o : Ordering} (e : order_numbers rest (spelled (drop i (sorted_renamed f ws))) ≡ o)
    {k : Rank} (r : Ranks (first_word rest) (map (rename_run f) (slot_words ws)) k) where
  pub found_greater : k.upto ≤ i → i < length ws / SLOT → o ≡ lt
  found_greater h l =
      let us = map (rename_run f) (slot_words ws) in
      sym e ∙ greater_here us rest i r h
      (omega (arith, length-map (slot_words ws) (rename_run f), length-map (count_from (length ws / SLOT) 0) (word_at ws), count_from_length (length ws / SLOT) 0))

  pub found_equal : (n : ℕ) → k.less ≤ i → i < k.upto → Some n ≡ position (eqb 0) rest
      → order_numbers (drop (n + 1) rest) (spelled (drop (i + 1) (sorted_renamed f ws))) ≡ o
  found_equal n h l p =
      let (d, m) = word_ends rest n p in
      rw d (sym (equal_here (map (rename_run f) (slot_words ws)) rest i r h l (omega arith)) ∙ e)
