-- Each name is read as what it names, case by case.
use Rattle.std.proofs.Common.{true, refl}
use Rattle.gn_rules.specs.declared.reply.DropReason.TheVariants.{UnknownKind}
use Rattle.gn_rules.specs.declared.statistics.Counter.TheVariants.{Connected}
use Rattle.gn_numbers.specs.declared.events.EventWord.TheVariants.{Connect}
use Rattle.gn_numbers.specs.declared.titles.Text.{Text}
use Rattle.gn_numbers.specs.declared.titles.Text.TheVariants.{Capture}
use Rattle.gn_numbers.specs.declared.version.Version.TheVariants.{First}
use Rattle.gn_numbers.specs.declared.words.LineWord.TheVariants.{Join}
use Rattle.gn_numbers.specs.Names.{AreRead, NamesAreRead, counter_name, counter_named, event_name, event_named, line_word_name, line_word_named, place_name, place_named, reason_name, reason_named, title_of, version_of}

counters_read : AreRead counter_name counter_named
counters_read Connected = refl
counters_read counter = refl

reasons_read : AreRead reason_name reason_named
reasons_read UnknownKind = refl
reasons_read reason = refl

events_read : AreRead event_name event_named
events_read Connect = refl
events_read word = refl

line_words_read : AreRead line_word_name line_word_named
line_words_read Join = refl
line_words_read word = refl

places_read : AreRead place_name place_named
places_read true = refl
places_read local = refl

titles_read : (text : Text) → AreRead (title_of text) (version_of text)
titles_read Capture First = refl
titles_read Capture version = refl
titles_read text First = refl
titles_read text version = refl

pub names_read : NamesAreRead
names_read = record {
  counters = counters_read;
  reasons = reasons_read;
  events = events_read;
  line_words = line_words_read;
  places = places_read;
  titles = titles_read;
}
