-- Of a longer input the beginning is enough.
pub mod Cut
