mod Leaving
mod Looking
mod Renewing
mod Standing
