-- What a noted term comes from stays so while other terms are noted, lowered and opened.
use Rattle.std.specs.Prelude.{ℕ, ◌≤◌, ◌<◌, ◌≡◌, true, List, length}
use Rattle.std.proofs.Common.{arith, sym, ◌∙◌, ap, ⊎_elim}
use Rattle.terms.specs.Lists.{◌∈◌}
use Rattle.terms.specs.Term.{Term, zero}
use Rattle.terms.specs.Theory.Members.{getD_in}
use Rattle.weigh.specs.Weigh.{Weighed, start, note, mark}
use Rattle.weigh.specs.Slots.{weighed_at, Leads}
use Rattle.weigh.specs.Theory.Noting.{opened}
use Rattle.weigh.specs.Theory.Steps.{note_at, mark_at, note_length_cases, mark_length}
use Rattle.search.specs.declared.slots.Step.{Step}

-- a list in which the opened terms of the first stand where they stood, as they were
abbrev Stand : List Weighed → List Weighed → Type 0
Stand es es' = (length es ≤ length es') × ((k : ℕ) → k < length es → (weighed_at es k).opened ≡ true → weighed_at es' k ≡ weighed_at es k)

leads_stand : (es es' : List Weighed) → Stand es es' → (s : Step) (n : Weighed) → Leads s es n → Leads s es' n
leads_stand es es' (long, kept) s n h =
    let e = kept s.parent h.within h.opened in
    record {
      within = omega (arith, h.within);
      opened = rw e h.opened;
      line = h.line;
      marks = rw e h.marks;
      result = h.result;
      trail = rw e h.trail;
    }

-- a term is noted or lowered that is no lighter than the opened ones
pub leads_note : (m : Weighed) (es : List Weighed) → ((a : Weighed) → a ∈ es → a.opened ≡ true → a.total ≤ m.total) → (s : Step) (n : Weighed)
    → Leads s es n → Leads s (note m es) n
leads_note m es light =
    leads_stand es (note m es) (
      (note_length_cases m es).0,
      λ k h o.
          ⊎_elim (λ e. e) (λ (e, same, lower). absurd (omega (arith, light (weighed_at es k) (getD_in (start zero) es k h) o))) (note_at m es k (start zero) h),
    )

-- marking one that is opened changes nothing
already : (z : Weighed) → z.opened ≡ true → opened z ≡ z
already z o = ap (λ b. record { term = z.term; trail = z.trail; total = z.total; opened = b }) (sym o)

-- a term is opened
pub leads_mark : (t : Term) (es : List Weighed) → (s : Step) (n : Weighed) → Leads s es n → Leads s (mark t es) n
leads_mark t es =
    leads_stand es (mark t es)
    (omega (arith, mark_length t es), λ k h o. ⊎_elim (λ e. e) (λ (e, same). e ∙ already (weighed_at es k) o) (mark_at t es k (start zero) h))
