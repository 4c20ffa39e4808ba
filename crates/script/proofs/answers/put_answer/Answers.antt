use mathlib.Core.Path.{refl}
use Rattle.text.specs.Text.{line_text}
use Rattle.script.specs.Answers.{sent_to, answer_of}
use Rattle.script.proofs.Written.{sent_then}
use Rattle.script.proofs.answers.put_answer.Goals as goal

pub returns-in-Refused : goal.returns-in-Refused
unfolding line_text sent_to answer_of
returns-in-Refused c = rw c.in-Refused.is (sent_then (record { wrote = c.put_letter.ensures; size = refl }) c.put_number.ensures.0)

pub returns-in-DroppedLapsed : goal.returns-in-DroppedLapsed
unfolding line_text answer_of
returns-in-DroppedLapsed c = rw c.in-DroppedLapsed.is c.put_text.ensures

pub returns-in-DroppedNever : goal.returns-in-DroppedNever
unfolding line_text answer_of
returns-in-DroppedNever c = rw c.in-DroppedNever.is c.put_text-in-DroppedNever.ensures

pub returns-in-DroppedOther : goal.returns-in-DroppedOther
unfolding line_text answer_of
returns-in-DroppedOther c = rw c.in-DroppedOther.is c.put_text-in-DroppedOther.ensures

pub returns-in-ToClient : goal.returns-in-ToClient
unfolding line_text sent_to answer_of
returns-in-ToClient c = rw c.in-ToClient.is (sent_then (record { wrote = c.put_letter-in-ToClient.ensures; size = refl }) c.put_sent.ensures.0)

pub returns-in-ToPeer : goal.returns-in-ToPeer
unfolding answer_of
returns-in-ToPeer c = rw c.in-ToPeer.is c.put_to_peer.ensures
