-- The text of all words of a serve, from the text of its rows.
use Rattle.std.proofs.Common.{◌≡◌, ◌∙◌, ◌++◌, ap, []}
use Rattle.clap.specs.Words.{Text}
use Rattle.gn_program.specs.Serve.{AskedServe, config_text}

-- where that is appended to nothing, it is all
pub all_rows : (seen serving : AskedServe) (none rows all : Text) → seen ≡ serving → none ≡ [] → all ≡ none ++ rows → rows ≡ config_text seen → all ≡ config_text serving
all_rows seen serving none rows all is empty appended same =
    appended ∙ ap (λ text. text ++ rows) empty ∙ same ∙ ap config_text is
