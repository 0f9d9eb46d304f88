-- What is answered to who asks for the counts.
use Rattle.std.specs.Prelude.{◌≡◌, ◌⊎◌, [], List, ℕ}
use Rattle.http_server.specs.declared.response.Response.{Response}
use Rattle.gn_metrics.specs.declared.look.Look.{Look}
use Rattle.gn_metrics.specs.Page.{page_text}

-- an answer, where this text draws the counts in a browser: the page of a look, or that text; or nothing, as there is no other page, and no
-- other method
abbrev pub IsScraped : List ℕ → Response → Type 0
IsScraped drawing response =
    ((look : Look) × (response.status ≡ 200) × (response.body.items ≡ page_text look))
    ⊎ (((response.status ≡ 200) × (response.body.items ≡ drawing))
    ⊎ (((response.status ≡ 404) ⊎ (response.status ≡ 405)) × (response.body.items ≡ [])))
