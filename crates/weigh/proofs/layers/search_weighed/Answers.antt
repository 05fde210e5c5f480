-- `search_weighed` meets its contract: a law for each way out.
use Rattle.weigh.proofs.Searching.{searches_none, searches_wide, searches_many, searches_long, searches_begun}
use Rattle.weigh.proofs.layers.search_weighed.Goals as goal
use Rattle.weigh.proofs.layers.search_weighed.Goals.{then-slots-eq0-via-then-slots-eq0, then-slots-eq0-via-else-slots-eq0+then-limits-gt-LARGEST_SIZE, then-slots-eq0-via-else-slots-eq0+else-limits-gt-LARGEST_SIZE+then-limits-gt-MOST_NODES}

pub returns-then-slots-eq0 : goal.returns-then-slots-eq0
returns-then-slots-eq0 c =
    elim c.then-slots-eq0.branch [
      | then-slots-eq0-via-then-slots-eq0 w ↦ searches_none c.slots_of-slots.ensures w.if-slots-eq0.true
      | then-slots-eq0-via-else-slots-eq0+then-limits-gt-LARGEST_SIZE w ↦ searches_wide w.if-limits-gt-LARGEST_SIZE.true
      | then-slots-eq0-via-else-slots-eq0+else-limits-gt-LARGEST_SIZE+then-limits-gt-MOST_NODES w ↦ searches_many w.if-limits-gt-MOST_NODES.true
    ]

pub returns-in_default : goal.returns-in_default
returns-in_default c = searches_long c.in_default.ensures

pub returns : goal.returns
returns c = searches_begun c.slots_of-slots.ensures c.in-Some.ensures c.note_start.ensures c.open_layers.ensures
