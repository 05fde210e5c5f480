use Rattle.std.proofs.Common.{arith}
use Rattle.words.proofs.Spelling.{spell_start, spell_next}
use Rattle.words.proofs.sort.spell.Goals as goal

pub loop-slot-init : goal.loop-slot-init
loop-slot-init c = spell_start _ _ _

pub loop-slot-preserved : goal.loop-slot-preserved
loop-slot-preserved c =
    let p = c.spell_word-n in
    let w = c.word_of in
    let l = c.loop-slot in
    spell_next _ _ _ l.slot-index l.n l.out l.invariant w.result.now p.result p.new.out (omega arith) w.ensures p.auto.out p.ensures
