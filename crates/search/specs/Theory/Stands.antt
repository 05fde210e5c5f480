-- Which noted term stands in a slot, and that in a list of different terms each has one slot.
use Rattle.std.specs.Prelude.{ℕ, suc, ◌-◌, ◌<◌, ◌≡◌, refl, List, [], ◌∷◌, ◌++◌, length, take, drop}
use Rattle.std.proofs.Common.{arith, sym, ◌∙◌, ap, append_assoc, append-nil, length-append, length-drop, take-append-drop, length-take-le}
use Rattle.std.proofs.lemmas.List.{map-append, length-map, get_or_at}
use Rattle.std.proofs.Math.ListN.{get_or-append}
use Rattle.std.proofs.Math.Seq.{split_at}
use Rattle.terms.specs.Lists.{◌∈◌, here, there, in_right, Distinct, more}
use Rattle.terms.specs.Term.{Term}
use Rattle.search.specs.Line.{Line}
use Rattle.search.specs.Path.{Path, end, step}
use Rattle.search.specs.Search.{Noted}
use Rattle.search.specs.Slots.{noted_at}
use Rattle.search.specs.Theory.Grows.{terms}

-- slot j has n
pub record Stands (ns : List Noted) (j : ℕ) (n : Noted) : Type 0 where
  pub before : List Noted
  pub after : List Noted
  pub parts : ns ≡ before ++ (n ∷ after)
  pub count : length before ≡ j

-- one list begins with another
pub record Begins (ns ms : List Noted) : Type 0 where
  pub more : List Noted
  pub parts : ms ≡ ns ++ more

pub begins_self : (ns : List Noted) → Begins ns ns
begins_self ns = record { more = []; parts = sym (append-nil ns) }

pub begins_trans : {ns ms ls : List Noted} → Begins ns ms → Begins ms ls → Begins ns ls
begins_trans {ns} b c = record { more = b.more ++ c.more; parts = rw (c.parts, b.parts) (append_assoc ns b.more c.more) }

pub stands_still : {ns ms : List Noted} {j : ℕ} {n : Noted} → Begins ns ms → Stands ns j n → Stands ms j n
stands_still {n} b s =
    record { before = s.before; after = s.after ++ b.more; parts = rw (b.parts, s.parts) (append_assoc s.before (n ∷ s.after) b.more); count = s.count }

pub stands_in : {ns : List Noted} {j : ℕ} {n : Noted} → Stands ns j n → n ∈ ns
stands_in s = rw s.parts (in_right s.before (here refl))

stands_there : {n : Noted} {ns : List Noted} → n ∈ ns → (j : ℕ) × Stands ns j n
stands_there (here {x = x} {xs = xs} e) = (0, record { before = []; after = xs; parts = ap (λ y. y ∷ xs) (sym e); count = refl })
stands_there (there {x = x} m) =
    let (j, s) = stands_there m in
    (suc j, record { before = x ∷ s.before; after = s.after; parts = ap (λ l. x ∷ l) s.parts; count = ap suc s.count })

pub in_stands : {ns : List Noted} {n : Noted} → n ∈ ns → (j : ℕ) × Stands ns j n
in_stands = stands_there

pub stands_within : {ns : List Noted} {j : ℕ} {n : Noted} → Stands ns j n → j < length ns
stands_within {n} s = rw (s.parts, length-append s.before (n ∷ s.after)) (omega (arith, s.count))

pub stands_is : {ns : List Noted} {j : ℕ} {n : Noted} → Stands ns j n → noted_at ns j ≡ n
stands_is {j} {n} s = rw s.parts (get_or_at s.before n s.after _ j s.count)

pub stands_at : (ns : List Noted) (j : ℕ) → j < length ns → Stands ns j (noted_at ns j)
stands_at ns j h =
    record { before = take j ns; after = drop (suc j) ns; parts = split_at ns j _ h; count = length-take-le j ns (omega arith) }

-- a slot of the longer list that the shorter one has
pub stands_before : {ns ms : List Noted} {j : ℕ} {n : Noted} → Begins ns ms → Stands ms j n → j < length ns → Stands ns j n
stands_before {ns} {ms} {j} {n} b s h =
    let e : noted_at ns j ≡ n = sym (get_or-append ns b.more _ j h) ∙ rw (← b.parts) (stands_is s) in
    rw e at (stands_at ns j h)

-- the first of what is left after j
pub stands_next : (ns : List Noted) (j : ℕ) {n : Noted} {rest : List Noted} → drop j ns ≡ n ∷ rest → Stands ns j n
stands_next ns j {n} {rest} e =
    record {
      before = take j ns;
      after = rest;
      parts = sym (take-append-drop j ns) ∙ ap (λ l. take j ns ++ l) e;
      count = length-take-le j ns (let h : length ns - j ≡ suc (length rest) = sym (length-drop j ns) ∙ ap length e in omega arith);
    }

-- in a list of different terms each has one place
one_place : (t : Term) (xs us ys vs : List Term) → Distinct (xs ++ (t ∷ us)) → xs ++ (t ∷ us) ≡ ys ++ (t ∷ vs) → length xs ≡ length ys
one_place t [] us [] vs d e = refl
one_place t [] us (y ∷ ys) vs (more h d) e =
    let f : us ≡ ys ++ (t ∷ vs) = cc in
    absurd (h (rw f (in_right ys (here refl))))
one_place t (x ∷ xs) us [] vs (more h d) e =
    let f : t ≡ x = cc in
    absurd (h (in_right xs (here (sym f))))
one_place t (x ∷ xs) us (y ∷ ys) vs (more h d) e =
    let f : xs ++ (t ∷ us) ≡ ys ++ (t ∷ vs) = cc in
    ap suc (one_place t xs us ys vs d f)

-- the term of slot j stands in no other
pub stands_once : {ns : List Noted} {j k : ℕ} {n m : Noted} → Distinct (terms ns) → Stands ns j n → Stands ns k m → n.term ≡ m.term → j ≡ k
stands_once {ns} {n} {m} d s u e =
    sym s.count ∙ sym (length-map s.before term_of)
    ∙ one_place n.term (terms s.before) (terms s.after) (terms u.before) (terms u.after) (rw (← here_parts) d) (sym here_parts ∙ there_parts)
    ∙ length-map u.before term_of ∙ u.count
  where
    term_of : Noted → Term
    term_of x = x.term

    here_parts : terms ns ≡ terms s.before ++ (n.term ∷ terms s.after)
    here_parts = rw s.parts (map-append term_of s.before (n ∷ s.after))

    there_parts : terms ns ≡ terms u.before ++ (n.term ∷ terms u.after)
    there_parts = rw (u.parts, e) (map-append term_of u.before (m ∷ u.after))

-- the items before a list's last one
pub last_split : {A : Type 0} (x y : A) (xs ys : List A) → xs ++ (x ∷ []) ≡ ys ++ (y ∷ []) → xs ≡ ys
last_split x y [] [] e = refl
last_split x y [] (b ∷ []) e = absurd (let z : ◌≡◌ {A = ℕ} 0 1 = cc in omega arith)
last_split x y [] (b ∷ c ∷ ys) e = absurd (let z : ◌≡◌ {A = ℕ} 0 1 = cc in omega arith)
last_split x y (a ∷ []) [] e = absurd (let z : ◌≡◌ {A = ℕ} 0 1 = cc in omega arith)
last_split x y (a ∷ c ∷ xs) [] e = absurd (let z : ◌≡◌ {A = ℕ} 0 1 = cc in omega arith)
last_split x y (a ∷ xs) (b ∷ ys) e =
    let f : a ≡ b = cc in
    let g : xs ++ (x ∷ []) ≡ ys ++ (y ∷ []) = cc in
    rw (f, last_split x y xs ys g)

-- the term that lines lead to
ends : Term → List Line → Term
ends s [] = s
ends s (x ∷ xs) = ends x.result xs

path_ends : {Ok : Term → Line → Type 0} {s t : Term} {xs : List Line} → Path Ok s xs t → t ≡ ends s xs
unfolding ends
path_ends end = refl
path_ends (step x h p) = path_ends p

pub path_end : {Ok : Term → Line → Type 0} {s t u : Term} {xs : List Line} → Path Ok s xs t → Path Ok s xs u → t ≡ u
path_end p q = path_ends p ∙ sym (path_ends q)
