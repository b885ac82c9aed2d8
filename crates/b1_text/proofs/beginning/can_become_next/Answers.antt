use Rattle.b1_text.proofs.NextLines.{named_next, opened_peers, opened_few, listing_few}
use Rattle.b1_text.proofs.beginning.can_become_next.Goals as goal

pub begins_opened-requires-clause-peers : goal.begins_opened-requires-clause-peers
begins_opened-requires-clause-peers c = opened_peers c.in-Opened.version c.in-Opened.opening c.in-Opened.held c.in-Opened.len (rw c.in-Opened.is at c.requires)

pub begins_opened-requires-clause-few : goal.begins_opened-requires-clause-few
begins_opened-requires-clause-few c = opened_few c.in-Opened.version c.in-Opened.opening c.in-Opened.held c.in-Opened.len (rw c.in-Opened.is at c.requires)

pub begins_listing-requires : goal.begins_listing-requires
begins_listing-requires c = listing_few c.in-Listing.version c.in-Listing.opening c.in-Listing.lists c.in-Listing.list c.in-Listing.len (rw c.in-Listing.is at c.requires)

pub returns-in-Named : goal.returns-in-Named
returns-in-Named c = rw c.in-Named.is (named_next _ c.args.line.now c.begins_clock.result c.begins_clock.ensures)
