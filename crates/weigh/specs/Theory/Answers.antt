-- The claims hold of every text that WEIGH answers.
use Rattle.std.specs.Prelude.{ℕ, ◌≤◌, ◌≡◌, length, leb}
use Rattle.std.proofs.Math.Path.{refl}
use Rattle.std.proofs.Common.{sym, ◌∙◌, leb→le}
use Rattle.std.proofs.Math.Option.{some}
use mathlib.Core.List.{List, [], ◌∷◌, map}
use Rattle.terms.specs.Lists.{◌∈◌}
use Rattle.terms.specs.Term.{Term}
use Rattle.terms.specs.Theory.Order.{irreflexive}
use Rattle.terms.specs.Theory.TermOrder.{term_order}
use Rattle.words.specs.Words.{Word, words}
use Rattle.search.specs.Law.{Law, semiring}
use Rattle.search.specs.Line.{Line, Limits}
use Rattle.search.specs.Path.{Searchable, Path}
use Rattle.search.specs.Theory.Claims.{path_map}
use Rattle.search.specs.Theory.Letters.{searchable_covers}
use Rattle.weigh.specs.Weigh.{Weights, weight, weights_of}
use Rattle.weigh.specs.Outcome.{Outcome, proved, atmost, unproved, Returns, by_proved, by_atmost, expanded, noted}
use Rattle.weigh.specs.Claims.{WeighClaims}
use Rattle.weigh.specs.Hand.{HandClaims}
use Rattle.weigh.specs.Theory.Claims.{semiring_weigh_claims}
use Rattle.weigh.specs.Theory.Hand.{hand_claims}
use Rattle.text.specs.Bytes.{number, read_number}
use Rattle.text.specs.TermText.{Readable, read_term, write_term}
use Rattle.text.specs.Answer.{accepted, values}
use Rattle.text.specs.StepText.{names, read_steps}
use Rattle.text.specs.Theory.Numbers.{read_number_number}
use Rattle.text.specs.Theory.TermText.{read_write}
use Rattle.text.specs.Theory.StepText.{semiring_told}
use Rattle.text.specs.Theory.Answers.{path_named, one_read}
use Rattle.text.specs.Theory.Accepted.{If_accepted, accepted_then, required_then}
use Rattle.weigh.specs.Job.{WeighJob, read_weigh, WeighAccepted}
use Rattle.weigh.specs.Text.{weigh_text, job_weighed, weigh_entry}
use Rattle.weigh.specs.Answered.{weigh_verdict, weigh_atleasts, weigh_cuts, WeighAnswered}
use Rattle.weigh.specs.Theory.Jobs.{accepted_heavy, weigh_accepted}
use Rattle.weigh.specs.Theory.Lines.{path_answer, path_left, path_right, path_steps, path_total, path_atleast, path_expanded, path_read, path_cut, none_answer, none_left, none_right, none_expanded, none_atleast, none_cut}

-- each line of a path uses one of the laws
pub searchable_named : {ws : List Law} {m : Limits} {s t : Term} {xs : List Line} → Path (Searchable ws m) s xs t → (x : Line) → x ∈ xs → x.law ∈ names ws
searchable_named path = path_named (path_map (λ s x h. h.usable.line) path)

module _ (j : WeighJob) (known : WeighAccepted j) where
  abbrev w : Weights
  w = weights_of j.weights

  abbrev AllClaims : Type 0
  AllClaims = WeighClaims semiring (List Word) words w j.cost j.limits j.left j.right

  job_claims : AllClaims
  job_claims = semiring_weigh_claims w (accepted_heavy j known) j.cost j.limits j.left j.right (irreflexive term_order known.before)

  -- how nodes run out
  job_hand : HandClaims semiring w j.cost j.limits j.left j.right
  job_hand = hand_claims semiring w (accepted_heavy j known) j.cost j.left j.right j.limits

  -- each line of the path that is returned uses one of the laws, and its result has no letter that left has not
  module _ (xs : List Line) (r : Returns (job_weighed j) xs) where
    named : (x : Line) → x ∈ xs → x.law ∈ names semiring
    named = searchable_named (job_claims.path xs r).0

    result_readable : (x : Line) → x ∈ xs → Readable x.result
    result_readable x i m k = known.sides.readable_left m (searchable_covers (job_claims.path xs r).0 x i m k)

  -- what the lines of the text say
  record Told (o : Outcome) (t : List ℕ) : Type 0 where
    verdict : values "answer=" t ≡ weigh_verdict o ∷ []
    left : values "left=" t ≡ write_term j.left ∷ []
    right : values "right=" t ≡ write_term j.right ∷ []
    expanded : values "expanded=" t ≡ number (expanded o) ∷ []
    atleast : values "atleast=" t ≡ weigh_atleasts o
    cut : values "cut=" t ≡ weigh_cuts o

  -- and those about the path
  record ToldPath (xs : List Line) (t : List ℕ) : Type 0 where
    steps : values "steps=" t ≡ number (length xs) ∷ []
    total : values "total=" t ≡ number (weight w xs) ∷ []
    path : read_steps semiring t ≡ map some xs

  tells_path : (o : Outcome) (xs : List Line) → Returns o xs → job_weighed j ≡ o → Told o (weigh_text semiring j o) × ToldPath xs (weigh_text semiring j o)
  unfolding weigh_text
  tells_path o xs r p =
      let laws = named xs (rw (← p) at r) in (
        record {
          verdict = path_answer semiring semiring_told j xs o r laws;
          left = path_left semiring semiring_told j xs o r laws;
          right = path_right semiring semiring_told j xs o r laws;
          expanded = path_expanded semiring semiring_told j xs o r laws;
          atleast = path_atleast semiring semiring_told j xs o r laws;
          cut = path_cut semiring semiring_told j xs o r laws ∙ uncut r;
        },
        record {
          steps = path_steps semiring semiring_told j xs o r laws;
          total = path_total semiring semiring_told j xs o r laws;
          path = path_read semiring semiring_told j xs o r laws (result_readable xs (rw (← p) at r));
        },
      )
    where
      uncut : {o : Outcome} → Returns o xs → [] ≡ weigh_cuts o
      uncut by_proved = refl
      uncut by_atmost = refl

  tells : (o : Outcome) → job_weighed j ≡ o → Told o (weigh_text semiring j o)
  unfolding weigh_text
  tells (proved xs e n) p = (tells_path (proved xs e n) xs by_proved p).0
  tells (atmost xs l e n) p = (tells_path (atmost xs l e n) xs by_atmost p).0
  tells (unproved e n c) p =
      record {
        verdict = none_answer semiring semiring_told j e n c;
        left = none_left semiring semiring_told j e n c;
        right = none_right semiring semiring_told j e n c;
        expanded = none_expanded semiring semiring_told j e n c;
        atleast = none_atleast semiring semiring_told j e n c;
        cut = none_cut semiring semiring_told j e n c;
      }

module _ (bs : List ℕ) (slots room : ℕ) where
  answered_job : (j : WeighJob) → read_weigh bs ≡ accepted j → (o : Outcome) → o ≡ job_weighed j → noted o ≤ slots
      → length (weigh_text semiring j o) ≤ room → WeighAnswered bs slots room (weigh_text semiring j o)
  answered_job j read o searched enough fits =
      let known : WeighAccepted j = rw read at (weigh_accepted bs) in
      let told = tells j known o (sym searched) in
      let about : (xs : List Line) → Returns o xs → ToldPath j known xs (weigh_text semiring j o) = λ xs r. (tells_path j known o xs r (sym searched)).1 in
      record {
        read = j;
        accepted = read;
        known = known;
        outcome = o;
        searched = searched;
        printed = refl;
        enough = enough;
        fits = fits;
        verdict = told.verdict;
        sides = (
          one_read read_term told.left (read_write j.left known.sides.readable_left),
          one_read read_term told.right (read_write j.right known.sides.readable_right),
        );
        opened = one_read read_number told.expanded (read_number_number (expanded o));
        steps = λ xs r. one_read read_number (about xs r).steps (read_number_number (length xs));
        total = λ xs r. one_read read_number (about xs r).total (read_number_number (weight (weights_of j.weights) xs));
        path = λ xs r. (about xs r).path;
        atleast = told.atleast;
        cut = told.cut;
        claims = job_claims j known;
        hand = job_hand j known;
      }

  weigh_if_accepted : If_accepted (WeighAnswered bs slots room) (weigh_entry bs slots room)
  unfolding weigh_entry
  weigh_if_accepted =
      accepted_then (WeighAnswered bs slots room) (read_weigh bs) _ λ j read.
      required_then (WeighAnswered bs slots room) 7 (leb (noted (job_weighed j)) slots) _ λ enough.
      required_then (WeighAnswered bs slots room) 8 (leb (length (weigh_text semiring j (job_weighed j))) room) _ λ fits.
      answered_job j read (job_weighed j) refl (leb→le (noted (job_weighed j)) slots enough) (leb→le (length (weigh_text semiring j (job_weighed j))) room fits)

  pub weigh_answered : (t : List ℕ) → weigh_entry bs slots room ≡ accepted t → WeighAnswered bs slots room t
  weigh_answered t e = rw e at weigh_if_accepted
