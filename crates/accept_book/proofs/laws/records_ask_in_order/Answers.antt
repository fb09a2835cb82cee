use Rattle.accept_book.proofs.Asking.{record-at}
use Rattle.accept_book.proofs.laws.records_ask_in_order.Goals as goal

pub returns : goal.returns
returns c = record { few = λ octets kept serves. (record-at octets kept serves).few; early = λ octets kept serves. (record-at octets kept serves).early }
