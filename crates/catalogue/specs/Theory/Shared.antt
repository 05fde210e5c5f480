-- Two entries are of one kind exactly when, by their key, a renaming of v letters turns one into the other; so they have the same c letters.
use Rattle.std.specs.Prelude.{◌≡◌, ℕ, Bool, true, false, ◌↔◌, List, [], ◌∷◌, ◌++◌}
use Rattle.std.proofs.Common.{sym, ap₂, ◌∙◌, inl, inr, ⊎_elim}
use Rattle.terms.specs.Term.{Term}
use Rattle.terms.specs.Theory.Reflects.{Reflects}
use Rattle.words.specs.Words.{words}
use Rattle.words.specs.Theory.Shared.{alike_agree, alike_fixed, alike_words_fixed}
use Rattle.text.specs.Answer.{accepted}
use Rattle.text.specs.Shared.{Named, FourLines, Share}
use Rattle.text.specs.Theory.JobText.{job_exact}
use Rattle.text.specs.Theory.RenameText.{agree, left_value, right_value, wleft_value, wright_value}
use Rattle.text.specs.Theory.Shared.{agree_reflects, passes_named, named_lines, names_exactly, words_exactly, dashes_exactly}
use Rattle.catalogue.specs.Catalogue.{Entry}
use Rattle.catalogue.specs.Texts.{Key, raw, worded, Kind, read_put}
use Rattle.catalogue.specs.Claims.{lines_under, PutOf, PutFor, AlikeBy, SharedKind, SameFixedBy, FixedKind}
use Rattle.catalogue.specs.Theory.Written.{put_read}
use Rattle.catalogue.specs.Theory.Renamed.{one_kind}

-- lines that each stand alone agree together where they agree one by one
two_values : {xs ys zs ws : List (List ℕ)} {x y z w : List ℕ} → xs ≡ x ∷ [] → ys ≡ y ∷ [] → zs ≡ z ∷ [] → ws ≡ w ∷ []
    → (xs ++ ys ≡ zs ++ ws) ↔ ((xs ≡ zs) × (ys ≡ ws))
two_values {x = x} {y = y} {z = z} {w = w} p q r s = (
  λ e.
      let f : ◌≡◌ {A = List (List ℕ)} (x ∷ y ∷ []) (z ∷ w ∷ []) = sym (ap₂ ◌++◌ p q) ∙ e ∙ ap₂ ◌++◌ r s in
      let g : x ≡ z = cc in
      let h : y ≡ w = cc in
      (p ∙ (λ i. g i ∷ []) ∙ sym r, q ∙ (λ i. h i ∷ []) ∙ sym s),
  λ (e, f). ap₂ ◌++◌ e f,
)

module _ {s t u v : Term} {a b : List ℕ} (N : Named s t a) (M : Named u v b) where
  A : FourLines a (left_value s t) (right_value s t) (wleft_value s t) (wright_value s t)
  A = named_lines N

  B : FourLines b (left_value u v) (right_value u v) (wleft_value u v) (wright_value u v)
  B = named_lines M

  -- the lines of words, also where they are `-`
  words_shared : Share "wleft=" "wright=" a b ↔ AlikeBy worded s t u v
  words_shared = go (agree s t) (agree_reflects s t)
    where
      go : (c : Bool) → Reflects (words s ≡ words t) c → Share "wleft=" "wright=" a b ↔ AlikeBy worded s t u v
      go true h = (
        λ (p, q). inl (h, (dashes_exactly u v b M).0.0 (sym p ∙ (dashes_exactly s t a N).0.1 h)),
        λ x.
            let k : words u ≡ words v = ⊎_elim (λ (_, k). k) (λ w. alike_agree w h) x in
            ((dashes_exactly s t a N).0.1 h ∙ sym ((dashes_exactly u v b M).0.1 k), (dashes_exactly s t a N).1.1 h ∙ sym ((dashes_exactly u v b M).1.1 k)),
      )
      go false h =
          let (only, all) = words_exactly s t u v a b N M h in
          (λ x. inr (only x), λ x. all (⊎_elim (λ (k, _). absurd (h k)) (λ w. w) x))

  lines_shared : (k : Key) → (lines_under k a ≡ lines_under k b) ↔ AlikeBy k s t u v
  lines_shared raw =
      let (only, all) = two_values A.left A.right B.left B.right in
      let (tells, gives) = names_exactly s t u v a b N M in
      (λ e. tells (only e), λ x. all (gives x))
  lines_shared worded =
      let (only, all) = two_values A.wleft A.wright B.wleft B.wright in
      let (tells, gives) = words_shared in
      (λ e. tells (only e), λ x. all (gives x))

-- a put for an equation, and RENAME's answer to it
put_named : {bs : List ℕ} {e : Entry Kind} {s t : Term} → PutFor bs e s t → (a : List ℕ) × Named s t a × PutOf bs e a
put_named P =
    let (a, N, (room, f)) = passes_named P.passes in
    (a, N, record { job = P.job; text = P.text; read = P.read; room = room; renamed = f })

pub kinds_exactly : SharedKind
kinds_exactly bs cs e f s t u v P Q =
    let (a, N, O) = put_named P in
    let (b, M, R) = put_named Q in
    let (only, all) = one_kind bs cs e f a b O R in
    (λ p. let (k, l) = only p in (k, (by_key N M k).0 l), λ (k, x). all (k, (by_key N M k).1 x))
  where
    by_key : {a b : List ℕ} → Named s t a → Named u v b → {k l : Key} → k ≡ l → (lines_under k a ≡ lines_under l b) ↔ AlikeBy k s t u v
    by_key {a} {b} N M {k} e = rw (← e) (lines_shared N M k)

same_fixed : (k : Key) (s t u v : Term) → AlikeBy k s t u v → SameFixedBy k s t u v
same_fixed raw s t u v h = alike_fixed h
same_fixed worded s t u v (inl h) = inl h
same_fixed worded s t u v (inr h) = inr (alike_words_fixed s t u v h)

pub fixed_kind : FixedKind
fixed_kind bs cs e f s t u v P Q same = same_fixed e.kind.key s t u v ((kinds_exactly bs cs e f s t u v P Q).0 same).1

-- every put that is read is one for an equation
pub put_for : {bs : List ℕ} {e : Entry Kind} → read_put bs ≡ accepted e → (s : Term) × (t : Term) × PutFor bs e s t
put_for f =
    let R = put_read f in
    let (s, t, m, p, _) = (job_exact R.job R.equation).0 R.accepted in
    (s, t, record { job = R.job; limits = m; passes = p; text = R.text; read = f })
