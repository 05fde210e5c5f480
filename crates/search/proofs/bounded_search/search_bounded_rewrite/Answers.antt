-- `search_bounded_rewrite` meets its contract: a law for each way out.
use Rattle.search.proofs.Answering.{searches_direct, searches_begun}
use borrow.Author.Rules.{rules}
use Rattle.search.proofs.bounded_search.search_bounded_rewrite.Goals as goal

pub returns-then-waiting-eq0 : goal.returns-then-waiting-eq0
returns-then-waiting-eq0 c = search (searches_direct, rules)

pub returns : goal.returns
returns c = search (searches_begun, rules)
