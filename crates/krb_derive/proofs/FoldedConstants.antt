-- The folded constants of usages, computed by the definition.
use Rattle.std.proofs.Common.{◌≡◌, refl, [], ◌∷◌}
use Rattle.krb_derive.specs.declared.derivation.Part.TheVariants.{Encrypt, Integrity, Check}
use Rattle.krb_derive.specs.Fold.{n_fold, divisor_up_to, sum_of_pieces, part_of_copies, octet_around, bit_of_copies, number_of, octets_of, add_around}
use Rattle.krb_derive.specs.Derivation.{constant}

pub ticket_encrypt : n_fold 16 (constant 2 Encrypt) ≡ 0xb5 ∷ 0xb0 ∷ 0x58 ∷ 0x2c ∷ 0x14 ∷ 0xb6 ∷ 0x50 ∷ 0x0a ∷ 0xad ∷ 0x56 ∷ 0xab ∷ 0x55 ∷ 0xaa ∷ 0x80 ∷ 0x55 ∷ 0x6a ∷ []
unfolding constant n_fold divisor_up_to sum_of_pieces part_of_copies octet_around bit_of_copies number_of octets_of add_around
ticket_encrypt = refl

pub authenticator_encrypt : n_fold 16 (constant 11 Encrypt) ≡ 0xfe ∷ 0x54 ∷ 0xaa ∷ 0x55 ∷ 0xa5 ∷ 0x02 ∷ 0x52 ∷ 0x2f ∷ 0xbf ∷ 0x5f ∷ 0xaf ∷ 0xd7 ∷ 0xea ∷ 0x81 ∷ 0x75 ∷ 0xfa ∷ []
unfolding constant n_fold divisor_up_to sum_of_pieces part_of_copies octet_around bit_of_copies number_of octets_of add_around
authenticator_encrypt = refl

pub reply_encrypt : n_fold 16 (constant 12 Encrypt) ≡ 0x05 ∷ 0xd7 ∷ 0xec ∷ 0x76 ∷ 0xb5 ∷ 0x0b ∷ 0x53 ∷ 0x33 ∷ 0xc1 ∷ 0x60 ∷ 0xb0 ∷ 0x58 ∷ 0x2a ∷ 0x81 ∷ 0x96 ∷ 0x0b ∷ []
unfolding constant n_fold divisor_up_to sum_of_pieces part_of_copies octet_around bit_of_copies number_of octets_of add_around
reply_encrypt = refl

pub acceptor_seal_encrypt : n_fold 16 (constant 22 Encrypt) ≡ 0x56 ∷ 0x00 ∷ 0x80 ∷ 0xc0 ∷ 0x55 ∷ 0x60 ∷ 0x55 ∷ 0x5c ∷ 0xd6 ∷ 0x6a ∷ 0xb5 ∷ 0x5a ∷ 0xaa ∷ 0x82 ∷ 0xd6 ∷ 0xab ∷ []
unfolding constant n_fold divisor_up_to sum_of_pieces part_of_copies octet_around bit_of_copies number_of octets_of add_around
acceptor_seal_encrypt = refl

pub initiator_seal_encrypt : n_fold 16 (constant 24 Encrypt) ≡ 0x66 ∷ 0x08 ∷ 0x04 ∷ 0x02 ∷ 0x75 ∷ 0x71 ∷ 0x56 ∷ 0x65 ∷ 0xda ∷ 0x6c ∷ 0xb6 ∷ 0x5b ∷ 0x2a ∷ 0x83 ∷ 0x16 ∷ 0xcb ∷ []
unfolding constant n_fold divisor_up_to sum_of_pieces part_of_copies octet_around bit_of_copies number_of octets_of add_around
initiator_seal_encrypt = refl

pub ticket_integrity : n_fold 16 (constant 2 Integrity) ≡ 0x62 ∷ 0xdc ∷ 0x6e ∷ 0x37 ∷ 0x1a ∷ 0x63 ∷ 0xa8 ∷ 0x09 ∷ 0x58 ∷ 0xac ∷ 0x56 ∷ 0x2b ∷ 0x15 ∷ 0x40 ∷ 0x4a ∷ 0xc5 ∷ []
unfolding constant n_fold divisor_up_to sum_of_pieces part_of_copies octet_around bit_of_copies number_of octets_of add_around
ticket_integrity = refl

pub authenticator_integrity : n_fold 16 (constant 11 Integrity) ≡ 0xab ∷ 0x80 ∷ 0xc0 ∷ 0x60 ∷ 0xaa ∷ 0xaf ∷ 0xaa ∷ 0x2e ∷ 0x6a ∷ 0xb5 ∷ 0x5a ∷ 0xad ∷ 0x55 ∷ 0x41 ∷ 0x6b ∷ 0x55 ∷ []
unfolding constant n_fold divisor_up_to sum_of_pieces part_of_copies octet_around bit_of_copies number_of octets_of add_around
authenticator_integrity = refl

pub reply_integrity : n_fold 16 (constant 12 Integrity) ≡ 0xb3 ∷ 0x04 ∷ 0x02 ∷ 0x81 ∷ 0xba ∷ 0xb8 ∷ 0xab ∷ 0x32 ∷ 0x6c ∷ 0xb6 ∷ 0x5b ∷ 0x2d ∷ 0x95 ∷ 0x41 ∷ 0x8b ∷ 0x65 ∷ []
unfolding constant n_fold divisor_up_to sum_of_pieces part_of_copies octet_around bit_of_copies number_of octets_of add_around
reply_integrity = refl

pub acceptor_seal_integrity : n_fold 16 (constant 22 Integrity) ≡ 0x03 ∷ 0x2c ∷ 0x96 ∷ 0xcb ∷ 0x5b ∷ 0x0d ∷ 0xad ∷ 0x5b ∷ 0x81 ∷ 0xc0 ∷ 0x60 ∷ 0x30 ∷ 0x15 ∷ 0x42 ∷ 0xcc ∷ 0x06 ∷ []
unfolding constant n_fold divisor_up_to sum_of_pieces part_of_copies octet_around bit_of_copies number_of octets_of add_around
acceptor_seal_integrity = refl

pub initiator_seal_integrity : n_fold 16 (constant 24 Integrity) ≡ 0x13 ∷ 0x34 ∷ 0x1a ∷ 0x0d ∷ 0x7b ∷ 0x1e ∷ 0xae ∷ 0x64 ∷ 0x85 ∷ 0xc2 ∷ 0x61 ∷ 0x30 ∷ 0x95 ∷ 0x43 ∷ 0x0c ∷ 0x26 ∷ []
unfolding constant n_fold divisor_up_to sum_of_pieces part_of_copies octet_around bit_of_copies number_of octets_of add_around
initiator_seal_integrity = refl

pub acceptor_seal_check : n_fold 16 (constant 22 Check) ≡ 0x45 ∷ 0x6f ∷ 0xb8 ∷ 0x5c ∷ 0x23 ∷ 0x4f ∷ 0xcd ∷ 0x5c ∷ 0x92 ∷ 0x48 ∷ 0xa4 ∷ 0x52 ∷ 0x26 ∷ 0x42 ∷ 0xd4 ∷ 0x8a ∷ []
unfolding constant n_fold divisor_up_to sum_of_pieces part_of_copies octet_around bit_of_copies number_of octets_of add_around
acceptor_seal_check = refl

pub acceptor_sign_check : n_fold 16 (constant 23 Check) ≡ 0x4d ∷ 0xf3 ∷ 0xfa ∷ 0x7d ∷ 0x33 ∷ 0x57 ∷ 0xcd ∷ 0x60 ∷ 0x94 ∷ 0x49 ∷ 0xa4 ∷ 0xd2 ∷ 0x66 ∷ 0x42 ∷ 0xf4 ∷ 0x9a ∷ []
unfolding constant n_fold divisor_up_to sum_of_pieces part_of_copies octet_around bit_of_copies number_of octets_of add_around
acceptor_sign_check = refl

pub initiator_seal_check : n_fold 16 (constant 24 Check) ≡ 0x55 ∷ 0x77 ∷ 0x3b ∷ 0x9e ∷ 0x43 ∷ 0x60 ∷ 0xce ∷ 0x65 ∷ 0x96 ∷ 0x4a ∷ 0xa5 ∷ 0x52 ∷ 0xa6 ∷ 0x43 ∷ 0x14 ∷ 0xaa ∷ []
unfolding constant n_fold divisor_up_to sum_of_pieces part_of_copies octet_around bit_of_copies number_of octets_of add_around
initiator_seal_check = refl

pub initiator_sign_check : n_fold 16 (constant 25 Check) ≡ 0x5d ∷ 0xfb ∷ 0x7d ∷ 0xbf ∷ 0x53 ∷ 0x68 ∷ 0xce ∷ 0x69 ∷ 0x98 ∷ 0x4b ∷ 0xa5 ∷ 0xd2 ∷ 0xe6 ∷ 0x43 ∷ 0x34 ∷ 0xba ∷ []
unfolding constant n_fold divisor_up_to sum_of_pieces part_of_copies octet_around bit_of_copies number_of octets_of add_around
initiator_sign_check = refl
