-- Answers that are always the same, and the bytes of a text.
use Rattle.std.specs.Prelude.{ℕ, List}
use Rattle.wsc_top.specs.declared.text.Phrase.{Phrase}
use Rattle.wsc_top.specs.declared.text.Phrase.TheVariants.{Usage, Unread, Long, Sound}
use Rattle.wsc_top.specs.declared.text.Kind.{Kind}
use Rattle.wsc_top.specs.declared.text.Kind.TheVariants.{Fixed, Built}
use Rattle.wsc_top.specs.Texts.{usage_text, sound_text}
use Rattle.asm_read.specs.Texts.{unread_text, long_text}

abbrev pub phrase_text : Phrase → List ℕ
phrase_text Usage = usage_text
phrase_text Unread = unread_text
phrase_text Long = long_text
phrase_text Sound = sound_text

-- the bytes of a text
abbrev pub text_of : Kind → List ℕ
text_of (Fixed phrase) = phrase_text phrase
text_of (Built bytes) = bytes
