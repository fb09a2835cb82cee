use Rattle.accept_book.proofs.HonestRecords.{honest-kept}
use Rattle.accept_book.proofs.laws.honest_records.Goals as goal

pub returns : goal.returns
returns c = λ octets kept serves n procedure args honest id handle look. honest-kept c.of-keys.result octets kept serves n procedure args c.args.lease.now honest id c.of-keys.ensures handle look
