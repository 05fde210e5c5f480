-- `same_lists` meets its contract: the two lists are those of the terms.
use Rattle.words.proofs.Listing.{lists_same}
use Rattle.words.proofs.same.same_lists.Goals as goal

pub returns : goal.returns
returns c = lists_same c.list_words-m.ensures c.list_words-n.ensures c.same_slots.ensures
