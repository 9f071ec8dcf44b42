-- What each acknowledgment says.
use Rattle.rules.specs.Answers.{Replies, functional_acknowledgment, interchange_acknowledgment}
use Rattle.exchange.specs.declared.Acknowledgment.{Acknowledgment}
use Rattle.exchange.specs.declared.Acknowledgment.TheVariants.{Functional, Interchange}

unfoldable pub replies_of : Acknowledgment → Replies
replies_of Functional = functional_acknowledgment
replies_of Interchange = interchange_acknowledgment
