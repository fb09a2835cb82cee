pub mod Choice
pub mod Lists
pub mod NegInit
pub mod NegResp
