pub mod ChallengeLemmas
pub mod DenialLemmas
pub mod DigestLemmas
pub mod HmacLemmas
pub mod IntegrityLemmas
pub mod SignLemmas
