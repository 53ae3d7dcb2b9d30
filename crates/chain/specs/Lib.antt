-- Chains: the rules paper's last paragraph of "Sums"; and a driver that joins pieces by itself.
pub mod Chain
pub mod Driver
pub mod Sizes
