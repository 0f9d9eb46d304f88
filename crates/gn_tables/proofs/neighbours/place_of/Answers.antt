use Rattle.gn_tables.proofs.neighbours.place_of.Goals as goal

pub stands_at-requires : goal.stands_at-requires
stands_at-requires g c = c.requires

pub find_row-requires : goal.find_row-requires
find_row-requires g c = c.requires

pub returns-then-stands_at : goal.returns-then-stands_at
returns-then-stands_at g c = c.stands_at.ensures c.if-stands_at.true

pub returns : goal.returns
returns g c = c.find_row.ensures
