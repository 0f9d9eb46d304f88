use Rattle.gn_show.proofs.showing.line_of.Goals as goal

pub returns-in-Json : goal.returns-in-Json
returns-in-Json c = rw c.in-Json.is c.next_json.ensures

pub returns-in-Rows : goal.returns-in-Rows
returns-in-Rows c = rw c.in-Rows.is c.next_lines.ensures
