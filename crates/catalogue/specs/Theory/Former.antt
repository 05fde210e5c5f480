-- PUT does with texts without a c letter what it does by the former rule.
use Rattle.std.specs.Prelude.{ℕ, ◌≡◌, refl, List, length, nat_le}
use Rattle.std.proofs.Common.{◌∙◌, ap}
use Rattle.text.specs.Layout.{keyed, limit_line}
use Rattle.text.specs.Answer.{Answer, refused, accepted, ◌>>=◌}
use Rattle.text.specs.Job.{Job, read_job}
use Rattle.text.specs.Former.{former, present}
use Rattle.text.specs.Theory.Accepted.{accepted_then}
use Rattle.text.specs.Theory.Former.{Same, then_equal, required_same, found_same}
use Rattle.text.specs.Theory.Unchanged.{Good, read_good, terms_same, renamed_same}
use Rattle.catalogue.specs.Catalogue.{Entry, Catalogue, put}
use Rattle.catalogue.specs.Calls.{puts, call}
use Rattle.catalogue.specs.Texts.{Key, raw, worded, read_key, Kind, same_kind, lines_by, in_catalogue, read_put, put_text, read_call, sent}
use Rattle.catalogue.specs.Former as by
use Rattle.catalogue.specs.Former.{PutByPresent, PutWithout, PutUnchanged}

read_present : (bs : List ℕ) → read_put bs ≡ by.read_put present bs
unfolding read_put by.read_put
read_present bs = refl

-- a call of PUT goes by what is read of its text
sent_read : (bs : List ℕ) (c : Catalogue Kind) → sent (put_text bs) c ≡ ◌>>=◌ (read_put bs) (λ e. put same_kind e c)
unfolding sent read_call ◌>>=◌ call
sent_read bs c = go (read_put bs)
  where
    go : (a : Answer (Entry Kind)) → ◌>>=◌ (◌>>=◌ a (λ e. accepted (puts e))) (λ x. call same_kind x c) ≡ ◌>>=◌ a (λ e. put same_kind e c)
    go (refused n) = refl
    go (accepted e) = refl

pub put_by_present : PutByPresent
unfolding by.sent
put_by_present = (read_present, λ bs c. sent_read bs c ∙ ap (λ a. ◌>>=◌ a (λ e. put same_kind e c)) (read_present bs))

lines_same : (key : Key) (j : Job) → Good j → lines_by key j ≡ by.lines_by former key j
unfolding lines_by by.lines_by
lines_same raw j ((left, right), known) = terms_same j.left j.right known.sides.few left right
lines_same worded j ((left, right), known) = renamed_same j.left j.right known.sides.few left right

-- nothing more is told of an entry
abbrev Any : Entry Kind → Type 0
Any e = Unit {0}

read_same : (bs : List ℕ) → PutWithout bs → Same Any (read_put bs) (by.read_put former bs)
unfolding read_put by.read_put
read_same bs without =
    required_same Any 1 (nat_le (length bs) 1024) _ _
    (found_same Any 1 (limit_line "number=" bs) _ refl _ _ λ n stated.
    required_same Any 1 (in_catalogue n.number) _ _
    (found_same Any 1 (keyed "key=" n.rest) _ refl _ _ λ k split.
    found_same Any 1 (read_key k.front) _ refl _ _ λ key _. (
      then_equal Good (read_good k.rest (without n k stated split)) λ j good.
          ap (λ l. accepted (record { number = n.number; kind = record { key = key; lines = l } })) (lines_same key j good),
      accepted_then Any (read_job k.rest) _ λ j _. tt,
    )))

pub put_unchanged : PutUnchanged
unfolding by.sent
put_unchanged bs without =
    let (same, _) = read_same bs without in
    (same, λ c. sent_read bs c ∙ ap (λ a. ◌>>=◌ a (λ e. put same_kind e c)) same)
