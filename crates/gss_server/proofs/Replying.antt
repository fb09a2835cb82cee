-- A record whose reply is written, or not.
use Rattle.std.proofs.Common.{[], refl, sym, inl, inr, ℕ, List, Bool, None, Some, Ok, Err}
use Rattle.std.proofs.lemmas.List.{append-nil}
use Rattle.sec_base.specs.Link.{Wire}
use Rattle.gss_server.specs.declared.answer.Kept.{Kept}
use Rattle.gss_server.specs.declared.answer.Reply.{Reply}
use Rattle.gss_server.specs.declared.connection.ConnEnd.{ConnEnd}
use Rattle.gss_server.specs.declared.connection.ConnEnd.TheVariants.{Ended, LinkFault, TooLong, TooManyFragments, Torn, Budget, NoMemory, Lost}
use Rattle.rpc_program.specs.Programs.{Serving}
use Rattle.accept_book.specs.declared.book_answer.Admitted.{Admitted}
use Rattle.accept_book.specs.RecordShown.{Asked, Ruling, asking}
use Rattle.gss_server.specs.declared.answer.Reply.TheVariants as replies
use Rattle.gss_server.specs.Answers.{Says, IsReply}
use Rattle.gss_server.specs.Connections.{framed, ruling_for}
use Rattle.gss_server.specs.Turns.{Keeps, AnswersBy, Responds, Ruled, Replies}

-- by the ruling of the record
abbrev ruled-so : {gained : List (Asked Admitted) → Type 0} {serves : Serving} {octets : List ℕ} {kept : List Kept} {One Two : Ruling → Type 0} → (p : Keeps gained One serves octets kept) → Two (ruling_for serves octets p.one) → Keeps gained Two serves octets kept
ruled-so p r = record { one = p.one; only = p.only; exact = p.exact; ruled = r; asked = p.asked }

pub replied-whole : {told : Bool} {gained : List (Asked Admitted) → Type 0} {serves : Serving} {a b : Wire} {octets : List ℕ} {kept : List Kept} (reply : Reply) → AnswersBy gained serves octets reply kept → ((ruling : Ruling) → IsReply ruling reply → Responds {T = Unit {0}} told a b (framed ruling.reply) (Ok tt)) → ((ruling : Ruling) → IsReply ruling reply → Ruled {T = Unit {0}} ruling (Ok tt)) → Replies told gained serves a b octets None kept
replied-whole {serves = serves} {octets = octets} reply p r q = record {
  keeps = ruled-so p (q (ruling_for serves octets p.one) p.ruled);
  wire = r (ruling_for serves octets p.one) p.ruled;
}

pub replied-so : (told : Bool) {gained : List (Asked Admitted) → Type 0} {serves : Serving} (a b : Wire) {octets : List ℕ} {kept : List Kept} (reply : Reply) (ending : ConnEnd) → AnswersBy gained serves octets reply kept → ((ruling : Ruling) → IsReply ruling reply → Responds {T = Unit {0}} told a b (framed ruling.reply) (Err ending)) → ((ruling : Ruling) → IsReply ruling reply → Ruled {T = Unit {0}} ruling (Err ending)) → Replies told gained serves a b octets (Some ending) kept
replied-so told {serves = serves} a b {octets} reply Ended p r q = q (ruling_for serves octets p.one) p.ruled
replied-so told {serves = serves} a b {octets} reply LinkFault p r q = record {
  keeps = ruled-so p (q (ruling_for serves octets p.one) p.ruled);
  wire = r (ruling_for serves octets p.one) p.ruled;
}
replied-so told {serves = serves} a b {octets} reply TooLong p r q = q (ruling_for serves octets p.one) p.ruled
replied-so told {serves = serves} a b {octets} reply TooManyFragments p r q = q (ruling_for serves octets p.one) p.ruled
replied-so told {serves = serves} a b {octets} reply Torn p r q = q (ruling_for serves octets p.one) p.ruled
replied-so told {serves = serves} a b {octets} reply Budget p r q = q (ruling_for serves octets p.one) p.ruled
replied-so told {serves = serves} a b {octets} reply Lost p r q = record {
  keeps = ruled-so p (q (ruling_for serves octets p.one) p.ruled);
  wire = r (ruling_for serves octets p.one) p.ruled;
}
replied-so told {serves = serves} a b {octets} reply NoMemory p r q = inr (record {
  keeps = ruled-so p (q (ruling_for serves octets p.one) p.ruled);
  wire = r (ruling_for serves octets p.one) p.ruled;
})

pub no-room : {told : Bool} {gained : List (Asked Admitted) → Type 0} {serves : Serving} {octets : List ℕ} (a : Wire) → gained [] → Replies told gained serves a a octets (Some NoMemory) []
no-room a g = inl (record {
  none = refl;
  asked = g;
  wire = record { taken = refl; coming = λ t. ([], sym (append-nil a.coming)); written = sym (append-nil a.written) };
})

-- what a layer said is the reply
pub reply-said : (rule : ℕ) (ruling : Ruling) (reply : Reply) → Says reply rule ruling → IsReply ruling reply
reply-said rule ruling replies.Silent p = (p.1, p.2)
reply-said rule ruling (replies.Bytes octets) p = (p.1, p.2)
reply-said rule ruling replies.Gone p = (p.1, p.2)
reply-said rule ruling replies.NoMemory p = p.1

-- what is said by a ruling is said by it with a question in front
pub says-asking : (reply : Reply) (rule : ℕ) (one : Asked Admitted) (ruling : Ruling) → Says reply rule ruling → Says reply rule (asking one ruling)
says-asking replies.Silent rule one ruling p = p
says-asking (replies.Bytes octets) rule one ruling p = p
says-asking replies.Gone rule one ruling p = p
says-asking replies.NoMemory rule one ruling p = p
