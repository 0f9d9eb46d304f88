use Rattle.gn_tables.proofs.neighbours.find_row.Goals as goal

pub stands_at-requires : goal.stands_at-requires
stands_at-requires g c = c.requires

pub search_row-requires : goal.search_row-requires
search_row-requires g c = c.requires

pub returns-then-stands_at : goal.returns-then-stands_at
returns-then-stands_at g c = c.stands_at.ensures c.if-stands_at.true

pub returns : goal.returns
returns g c = c.search_row.ensures
