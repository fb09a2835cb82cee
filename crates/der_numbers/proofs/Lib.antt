pub mod OctetByOctet
