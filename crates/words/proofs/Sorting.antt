-- Sorting slots by their words: both halves, then merged.
use Rattle.std.proofs.Common.{◌≡◌, ℕ, zero, suc, ◌+◌, ◌-◌, ◌<◌, ◌≤◌, Bool, true, false, List, [], ◌∷◌, ◌++◌, length, get_or, take, drop, sym, refl, ap, ◌∙◌, append_assoc, arith, length-drop, take-append-drop, drop_of_length-le, length-take-le, drop-cons, take-suc, drop-drop, take_at, drop_at}
use Rattle.std.specs.List.{swap}
use mathlib.Core.List.Permᴰ
use mathlib.Core.List.{map-append}
use borrow.Rule.Slice.PartMut.{mid_of, put_mid}
use Rattle.terms.specs.Sort.{kept, insert, before, Below, Sorted}
use Rattle.terms.specs.Theory.Sorted.{sort_sorted}
use Rattle.terms.specs.Theory.Sorting.{sort_of_permutation, sort_append_left, sort_append_right, sorted_unique, sort_permutation}
use Rattle.words.specs.Words.{Word, order_words, normal}
use Rattle.words.specs.Spelled.{word_at, words_at}
use Rattle.words.specs.Sort.{first_next, from_first, Merges}
use Rattle.words.specs.Theory.Order.{word_order}
use Rattle.words.specs.Theory.Merge.{first_below, second_below}
use Rattle.words.proofs.Merging.{first_there, next_slots}
use Rattle.words.proofs.Parts.{end_lent, end_back}

-- two sorted lists, of which the first's last item may stand before the second, are one
joined_sorted : (us : List Word) (u : Word) (vs : List Word) → Sorted kept order_words (us ++ (u ∷ [])) → Below kept order_words u vs
    → Sorted kept order_words vs → Sorted kept order_words (us ++ (u ∷ vs))
joined_sorted [] u vs s b t = (b, t)
joined_sorted (x ∷ []) u vs s b t = (s.0, joined_sorted [] u vs s.1 b t)
joined_sorted (x ∷ y ∷ us) u vs s b t = (s.0, joined_sorted (y ∷ us) u vs s.1 b t)

sorted_normal : (us : List Word) → Sorted kept order_words us → us ≡ normal kept us
sorted_normal us s = sym (sorted_unique kept word_order (sort_sorted kept word_order us) s (sort_permutation word_order us))

in_order : (ws order : List ℕ) (i : ℕ) → from_first ws (drop i order) (drop (suc i) order) ≡ true → Merges ws (take (suc i) order) (drop (suc i) order) order
in_order ws order i e s t =
    let x = get_or order i 0 in
    let rest = words_at ws (drop (suc i) order) in
    let h : i < length order = omega (arith, length-drop i order, first_there ws (drop i order) (drop (suc i) order) e) in
    let d = drop-cons order i 0 h in
    let whole : words_at ws (take (suc i) order) ++ rest ≡ words_at ws order =
    sym (map-append _ (take (suc i) order) (drop (suc i) order)) ∙ ap (words_at ws) (take-append-drop (suc i) order) in
    let split : words_at ws order ≡ words_at ws (take i order) ++ (word_at ws x ∷ rest) =
    ap (words_at ws) (sym (take-append-drop i order) ∙ ap (take i order ++◌) d) ∙ map-append _ (take i order) (x ∷ drop (suc i) order) in
    let first : Sorted kept order_words (words_at ws (take i order) ++ (word_at ws x ∷ [])) = rw (take-suc order i 0 h, map-append) at s in
    let below = first_below word_order (word_at ws x) rest rest (rw d at e) in
    let all : Sorted kept order_words (words_at ws order) = rw split (joined_sorted (words_at ws (take i order)) (word_at ws x) rest first below t) in
    rw whole (sorted_normal (words_at ws order) all)

pub parts_in_order : (ws order : List ℕ) (mid : ℕ) → 0 < mid → from_first ws (drop (mid - 1) order) (drop mid order) ≡ true
    → Merges ws (take mid order) (drop mid order) order
parts_in_order ws order zero z e = absurd (omega arith)
parts_in_order ws order (suc i) z e = let k : suc i - 1 ≡ i = omega arith in in_order ws order i (rw k at e)

below_front : (u : Word) (vs ws : List Word) → Below kept order_words u (vs ++ ws) → Below kept order_words u vs
below_front u [] ws b = tt
below_front u (v ∷ vs) ws b = b

-- the second part comes before the first: its last word before the first's first
reversed : (ws order : List ℕ) (mid : ℕ) → mid < length order → from_first ws (drop (length order - 1) order) order ≡ true
    → Merges ws (take mid order) (drop mid order) (drop mid order ++ take mid order)
reversed ws order mid h e s t =
    let k = length order - 1 in
    let x = get_or order k 0 in
    let second = drop mid order in
    let firsts = take (k - mid) second in
    let us = words_at ws (take mid order) in
    let at_end : mid + (k - mid) ≡ k = omega arith in
    let end : drop k order ≡ x ∷ [] = drop-cons order k 0 (omega arith) ∙ ap (λ l. x ∷ l) (drop_of_length-le order {i = suc k} (omega arith)) in
    let split : second ≡ firsts ++ (x ∷ []) =
    sym (take-append-drop (k - mid) second) ∙ ap (firsts ++◌) (drop-drop (k - mid) mid order ∙ ap (λ n. drop n order) at_end ∙ end) in
    let last : words_at ws second ≡ words_at ws firsts ++ (word_at ws x ∷ []) = ap (words_at ws) split ∙ map-append _ firsts (x ∷ []) in
    let whole : words_at ws order ≡ us ++ words_at ws second = ap (words_at ws) (sym (take-append-drop mid order)) ∙ map-append _ (take mid order) second in
    let below = below_front (word_at ws x) us (words_at ws second) (rw whole at (first_below word_order (word_at ws x) [] (words_at ws order) (rw end at e))) in
    let joined = joined_sorted (words_at ws firsts) (word_at ws x) us (rw last at t) below s in
    let both : words_at ws second ++ us ≡ words_at ws firsts ++ (word_at ws x ∷ us) = ap (◌++ us) last ∙ append_assoc (words_at ws firsts) (word_at ws x ∷ []) us in
    map-append _ second (take mid order)
    ∙ sorted_normal (words_at ws second ++ us) (rw both joined)
    ∙ sort_of_permutation kept word_order (Permᴰ.append_comm (words_at ws second) us)

pub short_sorted : (ws order : List ℕ) → length order < 2 → words_at ws order ≡ normal kept (words_at ws order)
unfolding insert
short_sorted ws [] h = refl
short_sorted ws (x ∷ []) h = refl
short_sorted ws (x ∷ y ∷ order) h = absurd (omega arith)

-- two slots, by how their words compare

pub pair_kept : (ws order : List ℕ) → length order ≡ 2
    → before kept (order_words (word_at ws (get_or order 0 0)) (word_at ws (get_or order 1 0))) ≡ true → words_at ws order ≡ normal kept (words_at ws order)
pair_kept ws [] h e = absurd (omega arith)
pair_kept ws (x ∷ []) h e = absurd (omega arith)
pair_kept ws (x ∷ y ∷ []) h e = sorted_normal (words_at ws (x ∷ y ∷ [])) (rw e tt, (tt, tt))
pair_kept ws (x ∷ y ∷ z ∷ order) h e = absurd (omega arith)

pub pair_exchanged : (ws order : List ℕ) → length order ≡ 2
    → before kept (order_words (word_at ws (get_or order 0 0)) (word_at ws (get_or order 1 0))) ≡ false
    → words_at ws (swap order 0 1) ≡ normal kept (words_at ws order)
unfolding first_next
pair_exchanged ws [] h e = absurd (omega arith)
pair_exchanged ws (x ∷ []) h e = absurd (omega arith)
pair_exchanged ws (x ∷ y ∷ []) h e =
    let u = word_at ws x in
    let v = word_at ws y in
    sorted_normal (v ∷ u ∷ []) (second_below word_order (u ∷ []) v [] e, (tt, tt))
    ∙ sort_of_permutation kept word_order (Permᴰ.append_comm (v ∷ []) (u ∷ []))
pair_exchanged ws (x ∷ y ∷ z ∷ order) h e = absurd (omega arith)

module _ (order first : List ℕ) (mid : ℕ) (inside : mid ≤ length order) (same : length first ≡ length (take mid order)) where
  at_mid : length first ≡ mid
  at_mid = same ∙ length-take-le mid order inside

  pub second_half : mid_of mid (length (first ++ drop mid order) - mid) (first ++ drop mid order) ≡ drop mid order
  second_half = end_lent (first ++ drop mid order) mid ∙ drop_at first (drop mid order) mid at_mid

  pub second_back : (second : List ℕ) → put_mid mid (length (first ++ drop mid order) - mid) (first ++ drop mid order) second ≡ first ++ second
  second_back second = end_back (first ++ drop mid order) mid second ∙ ap (◌++ second) (take_at first (drop mid order) mid at_mid)

  pub halves_sorted : (ws second out : List ℕ) → words_at ws first ≡ normal kept (words_at ws (take mid order))
      → words_at ws second ≡ normal kept (words_at ws (mid_of mid (length (first ++ drop mid order) - mid) (first ++ drop mid order)))
      → (let both = put_mid mid (length (first ++ drop mid order) - mid) (first ++ drop mid order) second in Merges ws (take mid both) (drop mid both) out)
      → words_at ws out ≡ normal kept (words_at ws order)
  halves_sorted ws second out d e m =
      let us = words_at ws (take mid order) in
      let vs = words_at ws (drop mid order) in
      let f : words_at ws second ≡ normal kept vs = rw second_half at e in
      let n : Merges ws first second out = rw (second_back second, take_at first second mid at_mid, drop_at first second mid at_mid) at m in
      n (rw d (sort_sorted kept word_order us)) (rw f (sort_sorted kept word_order vs))
      ∙ rw (d, f) (sort_append_left kept word_order us (normal kept vs) ∙ sort_append_right kept word_order us vs)
      ∙ ap (normal kept) (sym (map-append _ (take mid order) (drop mid order)) ∙ ap (words_at ws) (take-append-drop mid order))

-- the parts in each other's place
module _ (ws order : List ℕ) (mid : ℕ) (inside : mid < length order) where
  pub parts_reversed : (parts first second : List ℕ) {r : Bool} → parts ≡ order
      → r ≡ before kept (order_words (word_at ws (get_or parts (length order - 1) 0)) (word_at ws (get_or parts 0 0))) → r ≡ true
      → first ≡ mid_of mid (length parts - mid) parts → second ≡ take mid parts
      → (let k = length order - mid in Merges ws (take mid order) (drop mid order) (put_mid k (length (first ++ drop k order) - k) (first ++ drop k order) second))
  parts_reversed parts first second p f g d b =
      let k = length order - mid in
      let goes : from_first ws (drop (length order - 1) order) (drop 0 order) ≡ true =
      next_slots ws order order (length order - 1) 0 (omega arith) (omega arith) ∙ sym (rw p at f) ∙ g in
      let front : first ≡ drop mid order = rw (p, end_lent order mid) at d in
      let rest : second ≡ take mid order = rw p at b in
      let same : length first ≡ length (take k order) = omega (arith, ap length front, length-drop mid order, length-take-le k order (omega arith)) in
      rw (second_back order first k (omega arith) same second, front, rest) (reversed ws order mid inside goes)
