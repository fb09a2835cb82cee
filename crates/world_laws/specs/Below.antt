-- The laws of the crates below that hold of the world.
-- It isn't needed to read the headline.
use Rattle.krb_derive.specs.Laws.{Laws as MakingLaws}
use Rattle.krb_tokens.specs.Laws.{Laws as TokenLaws}
use Rattle.ap_exchange.specs.Laws.{Laws as ExchangeLaws}
use Rattle.scram_mech.specs.Laws.{Laws as ScramLaws}
use Rattle.spnego_core.specs.InitLaws.{InitLaws}
use Rattle.spnego_core.specs.AcceptLaws.{AcceptLaws}
use Rattle.accept_book.specs.BookLaws.{BookLaws}

-- of seals and checksums, of tokens, Kerberos's exchange, SCRAM, both ends of SPNEGO, and the book
pub record Below : Type 0 where
  pub making : MakingLaws
  pub tokens : TokenLaws
  pub exchange : ExchangeLaws
  pub scram : ScramLaws
  pub init : InitLaws
  pub accept : AcceptLaws
  pub book : BookLaws
