use lib.ListN.{length-append}
use Rattle.text.specs.Text.{address_text}
use Rattle.text.proofs.Laws.{length_hex_word}
use Rattle.text.proofs.put_v6.Goals as goal

pub returns : goal.returns
unfolding address_text
returns c =
    let a = c.args in
    let two = c.put_hex_word_at.ensures _ _ (length_hex_word a.a) c.put_hex_word.ensures in
    let three = c.put_hex_word_at-2.ensures _ _ (rw (length-append, length_hex_word a.a, length_hex_word a.b)) two in
    c.put_hex_word_at-3.ensures _ _ (rw (length-append, length-append, length_hex_word a.a, length_hex_word a.b, length_hex_word a.c)) three
