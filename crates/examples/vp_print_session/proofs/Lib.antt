pub mod Pumping
