pub mod KeepLemmas
pub mod SettledLemmas
pub mod OfferLemmas
pub mod PaymentLemmas
