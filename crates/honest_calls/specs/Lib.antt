pub mod HonestCalls
