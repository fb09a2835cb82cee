use Rattle.scram_mech.proofs.ExchangeLaws.{proves, completes, takes, accepts, proof-verifies}
use Rattle.scram_mech.proofs.Masks.{proof-gives, same-key}
use Rattle.scram_mech.proofs.Agreement.{agrees}
use Rattle.scram_mech.proofs.OneCut.{parts-of, one-cut}
use Rattle.scram_mech.specs.FirstText.{first_format}
use Rattle.scram_mech.specs.SecondText.{second_format}
use Rattle.scram_mech.specs.ThirdText.{third_format}
use Rattle.scram_mech.specs.FinalText.{signature_format, error_format}
use Rattle.scram_mech.proofs.SoundTexts.{first-sound, second-sound, third-sound, signature-sound, error-sound}
use Rattle.scram_mech.proofs.PlaceLaws.{longest}
use Rattle.scram_mech.proofs.FileLaws.{file-found, file-only}
use Rattle.scram_mech.proofs.FoundTexts.{first-found, second-found, third-found, final-found, error-found}
use Rattle.scram_mech.proofs.OnlyTexts.{first-only, second-only, third-only, final-only, error-only}
use Rattle.scram_mech.proofs.RefusedTexts.{first-refused, second-refused, third-refused, final-refused}
use Rattle.scram_mech.proofs.RefusedFiles.{file-bad_line, file-named_twice}
use Rattle.scram_mech.proofs.Reasons.{step-reasons}
use Rattle.scram_mech.proofs.laws.prove_laws.Goals as goal

pub returns : goal.returns
returns c = record {
  proves = proves;
  completes = completes;
  takes = takes;
  accepts = accepts;
  recovers = proof-gives;
  one_key = same-key;
  proof_verifies = proof-verifies;
  agrees = agrees;
  parts = parts-of;
  one_cut = one-cut;
  first_place = longest first_format first-sound;
  second_place = longest second_format second-sound;
  third_place = longest third_format third-sound;
  signature_place = longest signature_format signature-sound;
  error_place = longest error_format error-sound;
  file_found = file-found;
  file_only = file-only;
  file_bad_line = file-bad_line;
  file_named_twice = file-named_twice;
  first_found = first-found;
  second_found = second-found;
  third_found = third-found;
  final_found = final-found;
  error_found = error-found;
  first_only = first-only;
  second_only = second-only;
  third_only = third-only;
  final_only = final-only;
  error_only = error-only;
  first_refused = first-refused;
  second_refused = second-refused;
  third_refused = third-refused;
  final_refused = final-refused;
  reasons = step-reasons;
}
