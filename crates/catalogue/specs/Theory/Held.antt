-- After every list of puts and withdrawals the entries held are those accepted and not withdrawn since, and the kept count equals a count
-- of their kinds made afresh.
use Rattle.std.specs.Prelude.{◌≡◌, ℕ, Bool, ◌⊎◌, ◌↔◌, List, [], ◌∷◌, ◌≢◌}
use Rattle.std.proofs.Common.{arith, ap, ◌∙◌, inl, inr}
use Rattle.std.proofs.Math.Path.{refl}
use Rattle.std.proofs.Math.Logic.{⊎_elim}
use mathlib.Core.List.{cons-ne-nil}
use Rattle.terms.specs.Lists.{◌∈◌, here, there, not-in-nil, cons-cases, append_cases, in_left, in_right, in_map}
use Rattle.text.specs.Answer.{Answer, refused, accepted}
use Rattle.catalogue.specs.Catalogue.{Entry, Catalogue, empty, held, kinds, left_by}
use Rattle.catalogue.specs.Calls.{Call, puts, withdraws, Unwithdrawn, Stands, last, later, call, after, accepted_calls, Sound, Led}
use Rattle.catalogue.specs.Theory.Kinds.{Tells}
use Rattle.catalogue.specs.Theory.Places.{numbers_in, Between}
use Rattle.catalogue.specs.Theory.Kept.{Put, Withdrawn, put_sound, withdraw_sound, empty_sound}

module _ {K : Type 0} where
  -- the entries with one in the middle

  between_in : {before after : List (Entry K)} {e d : Entry K} → Between before e after → d ∈ after → (d ≡ e) ⊎ (d ∈ before)
  between_in B m =
      ⊎_elim (λ i. inr (rw B.without (in_left B.behind i)))
      (λ i. ⊎_elim inl (λ j. inr (rw B.without (in_right B.front j))) (cons-cases i))
      (append_cases B.front (rw B.with at m))

  between_old : {before after : List (Entry K)} {e d : Entry K} → Between before e after → d ∈ before → d ∈ after
  between_old {e = e} B m =
      ⊎_elim (λ i. rw B.with (in_left (e ∷ B.behind) i)) (λ i. rw B.with (in_right B.front (there i)))
      (append_cases B.front (rw B.without at m))

  between_new : {before after : List (Entry K)} {e : Entry K} → Between before e after → e ∈ after
  between_new B = rw B.with (in_right B.front (here refl))

  numbered : {es : List (Entry K)} {e : Entry K} → e ∈ es → e.number ∈ numbers_in es
  numbered m = in_map (λ e. e.number) m

module _ {K : Type 0} {same : K → K → Bool} (tells : Tells same) where
  -- no call

  led_none : (c : Catalogue K) → Sound same c → Led same c c []
  led_none c S =
      record {
        sound = S;
        entries = λ e. (λ m. inl (m, not-in-nil), λ m. ⊎_elim (λ h. h.0) (λ s. absurd (nothing s)) m);
      }
    where
      some_call : {e : Entry K} {xs : List (Call K)} → Stands e xs → xs ≢ []
      some_call (last h) p = cons-ne-nil _ _ p
      some_call (later s) p = cons-ne-nil _ _ p

      nothing : {e : Entry K} → Stands e [] → ⊥
      nothing s = some_call s refl

  -- a put, and what followed it
  led_put : {e : Entry K} {c d f : Catalogue K} {xs : List (Call K)} → Put tells e c d → Led same d f xs → Led same c f (puts e ∷ xs)
  led_put {e} {c} {d} {f} {xs} P L =
      record { sound = L.sound; entries = λ g. (λ m. out g ((L.entries g).0 m), λ m. into g m) }
    where
      other : {n : ℕ} → withdraws n ∈ puts e ∷ xs → withdraws n ∈ xs
      other m = ⊎_elim (λ p. absurd (let z : ◌≡◌ {A = ℕ} 0 1 = cc in omega arith)) (λ j. j) (cons-cases m)

      out : (g : Entry K) → ((g ∈ held d.places × Unwithdrawn g.number xs) ⊎ Stands g xs)
          → ((g ∈ held c.places × Unwithdrawn g.number (puts e ∷ xs)) ⊎ Stands g (puts e ∷ xs))
      out g (inl (m, h)) = ⊎_elim (λ p. inr (rw p (last (rw p at h)))) (λ i. inl (i, λ j. h (other j))) (between_in P.between m)
      out g (inr s) = inr (later s)

      stood : (g : Entry K) → Stands g (puts e ∷ xs) → (g ∈ held d.places × Unwithdrawn g.number xs) ⊎ Stands g xs
      stood g (last h) = inl (between_new P.between, h)
      stood g (later s) = inr s

      into : (g : Entry K) → ((g ∈ held c.places × Unwithdrawn g.number (puts e ∷ xs)) ⊎ Stands g (puts e ∷ xs)) → g ∈ held f.places
      into g (inl (m, h)) = (L.entries g).1 (inl (between_old P.between m, λ j. h (there j)))
      into g (inr s) = (L.entries g).1 (stood g s)

  -- a withdrawal, and what followed it
  led_withdrawn : {n : ℕ} {c d f : Catalogue K} {xs : List (Call K)} → Withdrawn tells n c d → Led same d f xs → Led same c f (withdraws n ∷ xs)
  led_withdrawn {n} {c} {d} {f} {xs} W L =
      record { sound = L.sound; entries = λ g. (λ m. out g ((L.entries g).0 m), λ m. into g m) }
    where
      out : (g : Entry K) → ((g ∈ held d.places × Unwithdrawn g.number xs) ⊎ Stands g xs)
          → ((g ∈ held c.places × Unwithdrawn g.number (withdraws n ∷ xs)) ⊎ Stands g (withdraws n ∷ xs))
      out g (inl (m, h)) =
          inl (
            between_old W.between m,
            λ j. ⊎_elim (λ p. let q : g.number ≡ n = cc in W.gone (rw q at (numbered m))) h (cons-cases j),
          )
      out g (inr s) = inr (later s)

      stood : (g : Entry K) → Stands g (withdraws n ∷ xs) → Stands g xs
      stood g (later s) = s

      into : (g : Entry K) → ((g ∈ held c.places × Unwithdrawn g.number (withdraws n ∷ xs)) ⊎ Stands g (withdraws n ∷ xs)) → g ∈ held f.places
      into g (inl (m, h)) =
          ⊎_elim (λ p. absurd (h (here (ap withdraws (ap (λ x. x.number) p ∙ W.number)))))
          (λ i. (L.entries g).1 (inl (i, λ j. h (there j))))
          (between_in W.between m)
      into g (inr s) = (L.entries g).1 (inr (stood g s))

  led_call : (x : Call K) {c d f : Catalogue K} {xs : List (Call K)} → Sound same c → call same x c ≡ accepted d
      → (Sound same d → Led same d f xs) → Led same c f (x ∷ xs)
  unfolding call
  led_call (puts e) S p rest = let P = put_sound tells S p in led_put P (rest P.sound)
  led_call (withdraws n) S p rest = let W = withdraw_sound tells S p in led_withdrawn W (rest W.sound)

  -- every list of calls from a catalogue as it should be
  pub calls_led : (xs : List (Call K)) (c : Catalogue K) → Sound same c → Led same c (after same xs c) (accepted_calls same xs c)
  unfolding after accepted_calls
  calls_led [] c S = led_none c S
  calls_led (x ∷ xs) c S = go (call same x c) refl (calls_led xs)
    where
      go : (a : Answer (Catalogue K)) → call same x c ≡ a → ((d : Catalogue K) → Sound same d → Led same d (after same xs d) (accepted_calls same xs d))
          → Led same c (after same xs (left_by c a)) (elim a [ refused n ↦ accepted_calls same xs c | accepted d ↦ x ∷ accepted_calls same xs d ])
      go (refused n) p rest = rest c S
      go (accepted d) p rest = led_call x S p (rest d)

  -- every list of calls from an empty catalogue: the entries held are those accepted and not withdrawn since
  pub entries_held : (xs : List (Call K)) (e : Entry K) → (e ∈ held (after same xs empty).places) ↔ Stands e (accepted_calls same xs empty)
  unfolding empty held
  entries_held xs e =
      let L = calls_led xs empty (empty_sound tells) in
      (λ m. ⊎_elim (λ h. absurd (not-in-nil h.0)) (λ s. s) ((L.entries e).0 m), λ s. (L.entries e).1 (inr s))

  -- and the kept count equals a count of their kinds made afresh
  pub count_kept : (xs : List (Call K)) → (after same xs empty).kept ≡ kinds same (held (after same xs empty).places)
  count_kept xs = (calls_led xs empty (empty_sound tells)).sound.kept
