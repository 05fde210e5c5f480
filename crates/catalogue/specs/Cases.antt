-- Calls of PUT and WITHDRAW, evaluated.
use Rattle.std.specs.Prelude.{◌≡◌, ℕ, List, [], ◌∷◌, ◌++◌, map, replicate, refl}
use Rattle.words.specs.Rename.{count_from}
use Rattle.text.specs.Bytes.{ascii, number}
use Rattle.catalogue.specs.Catalogue.{Catalogue, empty, returned, left_by}
use Rattle.catalogue.specs.Texts.{Kind, Text, put_text, withdraw_text, sent, after_texts}

-- what the calls return, one after the other
abbrev pub numbers : List Text → Catalogue Kind → List ℕ
numbers [] c = []
numbers (t ∷ ts) c = returned (sent t c) ∷ numbers ts (left_by c (sent t c))

unfoldable pub calls : List Text
unfolding ascii
calls =
    put_text (ascii "number=1\nkey=raw\nleft=v0\nright=+ v0 0\nsteps=3\nsize=7\ndepth=3\nnodes=1000\n")
    ∷ put_text (ascii "number=2\nkey=raw\nleft=+ v5 0\nright=v5\nsteps=3\nsize=7\ndepth=3\nnodes=1000\n")
    ∷ put_text (ascii "number=3\nkey=words\nleft=v0\nright=+ v0 0\nsteps=3\nsize=7\ndepth=3\nnodes=1000\n")
    ∷ put_text (ascii "number=4\nkey=words\nleft=v1\nright=* 1 v1\nsteps=3\nsize=7\ndepth=3\nnodes=1000\n")
    ∷ put_text (ascii "number=5\nkey=words\nleft=* v0 v1\nright=* v1 v0\nsteps=3\nsize=7\ndepth=3\nnodes=1000\n")
    ∷ put_text (ascii "number=6\nkey=words\nleft=* v9 v7\nright=* v7 v9\nsteps=3\nsize=7\ndepth=3\nnodes=1000\n")
    ∷ put_text (ascii "number=999\nkey=words\nleft=0\nright=v0\nsteps=3\nsize=7\ndepth=3\nnodes=1000\n")
    ∷ put_text (ascii "number=1\nkey=raw\nleft=v0\nright=+ v0 0\nsteps=3\nsize=7\ndepth=3\nnodes=1000\n")
    ∷ put_text (ascii "number=1\nkey=words\nleft=v0\nright=+ v0 1\nsteps=3\nsize=7\ndepth=3\nnodes=1000\n")
    ∷ withdraw_text (ascii "number=2\n")
    ∷ withdraw_text (ascii "number=1\n")
    ∷ withdraw_text (ascii "number=1\n")
    ∷ withdraw_text (ascii "number=7\n")
    ∷ put_text (ascii "number=1\nkey=raw\nleft=v0\nright=+ v0 0\nsteps=3\nsize=7\ndepth=3\nnodes=1000\n")
    ∷ put_text (ascii "number=0\nkey=raw\nleft=v0\nright=+ v0 0\nsteps=3\nsize=7\ndepth=3\nnodes=1000\n")
    ∷ put_text (ascii "number=1000\nkey=raw\nleft=v0\nright=+ v0 0\nsteps=3\nsize=7\ndepth=3\nnodes=1000\n")
    ∷ put_text (ascii "number=01\nkey=raw\nleft=v0\nright=+ v0 0\nsteps=3\nsize=7\ndepth=3\nnodes=1000\n")
    ∷ put_text (ascii "number=8\nkey=Raw\nleft=v0\nright=+ v0 0\nsteps=3\nsize=7\ndepth=3\nnodes=1000\n")
    ∷ put_text (ascii "number=8\nkey=raws\nleft=v0\nright=+ v0 0\nsteps=3\nsize=7\ndepth=3\nnodes=1000\n")
    ∷ put_text (ascii "number=8\nkey=raw\nleft=+ v0\nright=v0\nsteps=3\nsize=7\ndepth=3\nnodes=1000\n")
    ∷ put_text (ascii "number=8\nkey=raw\nleft=v0\nright=v0\nsteps=3\nsize=7\ndepth=3\nnodes=1000\n")
    ∷ put_text (ascii "number=8\nkey=raw\nleft=v0\nright=+ v0 0\nsteps=17\nsize=7\ndepth=3\nnodes=1000\n")
    ∷ put_text (ascii "number=8\nleft=v0\nright=+ v0 0\nsteps=3\nsize=7\ndepth=3\nnodes=1000\n")
    ∷ withdraw_text (ascii "number=0\n")
    ∷ withdraw_text (ascii "number=1000\n")
    ∷ withdraw_text (ascii "number=3")
    ∷ withdraw_text (ascii "number=3\n\n")
    ∷ withdraw_text (ascii "")
    ∷ withdraw_text (ascii "number=3\n")
    ∷ withdraw_text (ascii "number=4\n")
    ∷ withdraw_text (ascii "number=5\n")
    ∷ withdraw_text (ascii "number=6\n")
    ∷ withdraw_text (ascii "number=999\n")
    ∷ withdraw_text (ascii "number=1\n")
    ∷ []

pub calls_hold : numbers calls empty ≡ 101 ∷ 101 ∷ 102 ∷ 102 ∷ 103 ∷ 103 ∷ 104 ∷ 13 ∷ 13 ∷ 104 ∷ 103 ∷ 14 ∷ 14 ∷ 104 ∷ 1 ∷ 1 ∷ 1 ∷ 1 ∷ 1 ∷ 2 ∷ 6 ∷ 5 ∷ 1 ∷ 1 ∷ 1 ∷ 1 ∷ 1 ∷ 1 ∷ 104 ∷ 103 ∷ 103 ∷ 102 ∷ 101 ∷ 100 ∷ []
unfolding calls ascii empty sent
calls_hold = refl

-- refusals in their order, each under a number that is listed: 1 before 2, and 2 to 6 before 13
unfoldable pub faults : List Text
unfolding ascii
faults =
    put_text (ascii "number=1\nkey=raw\nleft=v0\nright=+ v0 0\nsteps=3\nsize=7\ndepth=3\nnodes=1000\n")
    ∷ put_text (ascii "number=1\nkey=none\nleft=+ v0\nright=v0\nsteps=3\nsize=7\ndepth=3\nnodes=1000\n")
    ∷ put_text (ascii "number=1\nkey=raw\nleft=+ v0\nright=v0\nsteps=17\nsize=7\ndepth=3\nnodes=1000\n")
    ∷ put_text (ascii "number=1\nkey=raw\nleft=v1\nright=+ + + + + + + + + + + + + + + + v0 v0 v0 v0 v0 v0 v0 v0 v0 v0 v0 v0 v0 v0 v0 v0 v0\nsteps=17\nsize=7\ndepth=3\nnodes=1000\n")
    ∷ put_text (ascii "number=1\nkey=words\nleft=v6\nright=+ + + + + v0 v1 v2 v3 v4 v5\nsteps=17\nsize=7\ndepth=3\nnodes=1000\n")
    ∷ put_text (ascii "number=1\nkey=words\nleft=v0\nright=v0\nsteps=17\nsize=7\ndepth=3\nnodes=1000\n")
    ∷ put_text (ascii "number=1\nkey=words\nleft=v0\nright=v0\nsteps=3\nsize=7\ndepth=3\nnodes=1000\n")
    ∷ put_text (ascii "number=1\nkey=words\nleft=v0\nright=v1\nsteps=3\nsize=7\ndepth=3\nnodes=1000\n")
    ∷ []

pub faults_hold : numbers faults empty ≡ 101 ∷ 1 ∷ 2 ∷ 3 ∷ 4 ∷ 5 ∷ 6 ∷ 13 ∷ []
unfolding faults ascii empty sent
faults_hold = refl

-- entries whose lines differ in a c letter, or have a v letter in its place, are of different kinds by either key; those whose words agree have
-- the same lines by `key=words`, whatever their c letters are
unfoldable pub fixed : List Text
unfolding ascii
fixed =
    put_text (ascii "number=1\nkey=raw\nleft=+ v0 c0\nright=c0\nsteps=3\nsize=7\ndepth=3\nnodes=1000\n")
    ∷ put_text (ascii "number=2\nkey=raw\nleft=c0\nright=+ v7 c0\nsteps=3\nsize=7\ndepth=3\nnodes=1000\n")
    ∷ put_text (ascii "number=3\nkey=raw\nleft=+ v0 c1\nright=c1\nsteps=3\nsize=7\ndepth=3\nnodes=1000\n")
    ∷ put_text (ascii "number=4\nkey=raw\nleft=+ v0 v1\nright=v1\nsteps=3\nsize=7\ndepth=3\nnodes=1000\n")
    ∷ put_text (ascii "number=5\nkey=words\nleft=* v0 c0\nright=* c0 v0\nsteps=3\nsize=7\ndepth=3\nnodes=1000\n")
    ∷ put_text (ascii "number=6\nkey=words\nleft=* c0 v9\nright=* v9 c0\nsteps=3\nsize=7\ndepth=3\nnodes=1000\n")
    ∷ put_text (ascii "number=7\nkey=words\nleft=* v0 c1\nright=* c1 v0\nsteps=3\nsize=7\ndepth=3\nnodes=1000\n")
    ∷ put_text (ascii "number=8\nkey=words\nleft=* v0 v1\nright=* v1 v0\nsteps=3\nsize=7\ndepth=3\nnodes=1000\n")
    ∷ put_text (ascii "number=9\nkey=words\nleft=c0\nright=+ c0 0\nsteps=3\nsize=7\ndepth=3\nnodes=1000\n")
    ∷ put_text (ascii "number=10\nkey=words\nleft=c1\nright=+ c1 0\nsteps=3\nsize=7\ndepth=3\nnodes=1000\n")
    ∷ []

pub fixed_hold : numbers fixed empty ≡ 101 ∷ 101 ∷ 102 ∷ 103 ∷ 104 ∷ 104 ∷ 105 ∷ 106 ∷ 107 ∷ 107 ∷ []
unfolding fixed ascii empty sent
fixed_hold = refl

-- one equation, put under a number
unfoldable pub put_under : ℕ → Text
unfolding ascii number
put_under n = put_text (ascii "number=" ++ (number n ++ ascii "\nkey=raw\nleft=v0\nright=+ v0 0\nsteps=3\nsize=7\ndepth=3\nnodes=1000\n"))

-- 64 puts; a full catalogue refuses a listed number by 13 and another by 15, and a withdrawal makes room for one
pub full_holds : numbers (map put_under (count_from 64 1)) empty ≡ replicate 64 101
unfolding put_under ascii empty sent count_from
full_holds = refl

unfoldable pub when_full : List Text
unfolding ascii put_under
when_full = put_under 64 ∷ put_under 65 ∷ withdraw_text (ascii "number=30\n") ∷ put_under 65 ∷ put_under 30 ∷ []

pub when_full_hold : numbers when_full (after_texts (map put_under (count_from 64 1)) empty) ≡ 13 ∷ 15 ∷ 101 ∷ 101 ∷ 15 ∷ []
unfolding when_full put_under ascii empty sent count_from after_texts
when_full_hold = refl
