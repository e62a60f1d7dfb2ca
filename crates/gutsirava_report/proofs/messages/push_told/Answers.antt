-- Each message is told, or left out behind ten.
use Rattle.std.proofs.Common.{List, arith, subst}
use Rattle.std.proofs.lemmas.List.{take_all}
use Rattle.gutsirava_report.specs.Messages.{AddsMessages}
use Rattle.gutsirava_report.specs.Messages.AddsMessages.{NoMessage}
use Rattle.gutsirava_report.specs.declared.message.Message.{Message}
use Rattle.gutsirava_report.proofs.MessageLemmas.{messages_more}
use Rattle.gutsirava_report.proofs.messages.push_told.Goals as goal

pub loop-message-init : goal.loop-message-init
loop-message-init c = record { told = NoMessage; counted = omega arith }

pub loop-message-preserved : goal.loop-message-preserved
loop-message-preserved c = record {
  told = messages_more c.args.sheet.now c.loop-message.sheet c.push_message.new.sheet c.args.messages.now
      c.loop-message.message-index c.message-item.result c.of.result c.loop-message-test.true c.message-item.is
      (omega (arith, c.of.ensures, c.loop-message.invariant.counted)) c.loop-message.invariant.told c.in_ok-push_message.ensures;
  counted = omega (arith, c.add.ensures, c.loop-message.invariant.counted);
}

pub returns : goal.returns
returns c =
    subst (λ (some : List Message). AddsMessages c.args.sheet.now some c.loop-message.sheet)
    (take_all c.loop-message.message-index c.args.messages.now c.loop-message-test.false) c.loop-message.invariant.told
